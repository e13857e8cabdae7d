-- What a message weighs, and which is nearest. Assumes nothing.
use Rattle.std.specs.Prelude.{◌≡◌, ℕ, suc, Bool, cond, List, [], ◌∷◌, map, length, slice_index_or}
use Rattle.code.specs.Places.{output, place_of}
use Rattle.code.specs.Register.{coded}
use Rattle.code.specs.Shapes.{Shape, block_length, message_length}
use Rattle.code.specs.declared.registers.Outputs.{Outputs}
use Rattle.weighing.specs.Scales.{Scale}
use Rattle.search.specs.declared.Entry.{Entry}

-- an entry's weight against a bit
abbrev pub side : {V : Type 0} → Bool → Entry V → V
side b e = cond b e.one e.zero

module _ {V : Type 0} (s : Scale V) where
  -- Sums: what each place weighs against each bit.
  abbrev pub Sums : Type 0
  Sums = ℕ → Bool → s.Meaning

  -- the sums that the entries of a tally mean
  unfoldable pub entry_sums : List (Entry V) → Sums
  entry_sums tally p b = slice_index_or (map (λ e. s.mean (side b e)) tally) p s.zero

  module _ (order : List ℕ) (n : ℕ) (sums : Sums) where
    -- the sum at the place of output o of step t against the bit that stands there
    unfoldable pub part : ℕ → Outputs → ℕ → s.Meaning
    part t v o = sums (place_of order n o t) (output o v)

    -- the steps from t on, added behind w: in order, and in each the outputs 1 to 4
    abbrev pub added : s.Meaning → ℕ → List Outputs → s.Meaning
    added w t [] = w
    added w t (v ∷ vs) =
        let p : ℕ → s.Meaning = part t v in
        added (s.plus (s.plus (s.plus (s.plus w (p 1)) (p 2)) (p 3)) (p 4)) (suc t) vs

    -- the weight of a message
    unfoldable pub weight : List Bool → s.Meaning
    weight message = added s.zero 0 (coded message)

  -- the weight of a message in a block of a shape
  abbrev pub weight_of : Shape → Sums → List Bool → s.Meaning
  weight_of shape sums message = weight shape.order (block_length shape) sums message

  -- a message is any 8 * T + L bits; it is nearest where none weighs less
  abbrev pub Nearest : Shape → Sums → List Bool → Type 0
  Nearest shape sums message =
      (other : List Bool) → length other ≡ message_length shape
      → s.atmost (weight_of shape sums message) (weight_of shape sums other)
