-- Laws of the register's runs. Assumes nothing.
use Rattle.std.proofs.Common.{◌≡◌, ℕ, zero, suc, ◌+◌, ◌<◌, Bool, false, List, [], ◌∷◌, ◌++◌, length, get_or, take, set, ◌-◌, sym, refl, ap, ◌∙◌, le_of_suc-le-suc, not-suc-le-zero, arith}
use Rattle.std.proofs.lemmas.List.FromFn.{length-map-range_with_len, map-range_with_len_more}
use Rattle.std.proofs.lemmas.List.{append-nil, append_assoc, get_or-append_right, get_or_append_left, take_more_set}
use Rattle.std.proofs.lemmas.List.Sums.{fold_push}
use Rattle.code.specs.Register.{Cells, next, outputs, after, cleared, coded, silent, tail, trace}
use Rattle.code.specs.Rows.{first}
use Rattle.code.specs.declared.registers.Outputs.{Outputs}

pub trace_append : (m : Cells) (us vs : List Bool) → trace m (us ++ vs) ≡ trace m us ++ trace (after m us) vs
trace_append m [] vs = refl
trace_append m (u ∷ us) vs = ap (λ rest. outputs m u ∷ rest) (trace_append (next m u) us vs)

pub trace_length : (m : Cells) (us : List Bool) → length (trace m us) ≡ length us
trace_length m [] = refl
trace_length m (u ∷ us) = ap suc (trace_length (next m u) us)

-- output 1 is the bit itself
pub trace_own : (m : Cells) (us : List Bool) (i : ℕ) → i < length us → (get_or (trace m us) i silent.outputs).v1 ≡ get_or us i false
trace_own m [] i h = absurd (not-suc-le-zero h)
trace_own m (u ∷ us) zero h = refl
trace_own m (u ∷ us) (suc i) h = trace_own (next m u) us i (le_of_suc-le-suc h)

pub after_more : (m : Cells) (f : ℕ → Bool) (t : ℕ) → after m (first f (t + 1)) ≡ next (after m (first f t)) (f t)
after_more m f t = ap (after m) (map-range_with_len_more f 0 t t (omega arith)) ∙ fold_push next m (first f t) (f t)

pub trace_more : (m : Cells) (f : ℕ → Bool) (t : ℕ) → trace m (first f (t + 1)) ≡ trace m (first f t) ++ outputs (after m (first f t)) (f t) ∷ []
trace_more m f t = ap (trace m) (map-range_with_len_more f 0 t t (omega arith)) ∙ trace_append m (first f t) (f t ∷ [])

-- One step more of a run: its outputs are noted behind those before, and the register moves on.
pub record Noted (m : Cells) (bits : List Bool) (steps : List Outputs) (t : ℕ) (now : Cells) : Type 0 where
  pub steps_are : take t steps ≡ trace m bits
  pub cells_are : now ≡ after m bits

pub noted_more : (m : Cells) (f : ℕ → Bool) (steps : List Outputs) (t : ℕ) (now then : Cells) (u : Bool) (y : Outputs)
    → t < length steps → Noted m (first f t) steps t now → u ≡ f t → y ≡ outputs now u → then ≡ next now u
    → Noted m (first f (t + 1)) (set steps t y) (t + 1) then
noted_more m f steps t now then u y within before bit answer moved = record {
  steps_are =
      take_more_set steps t y within ∙ ap (λ xs. xs ++ y ∷ []) before.steps_are
      ∙ ap (λ x. trace m (first f t) ++ x ∷ []) (answer ∙ (λ i. outputs (before.cells_are i) (bit i)))
      ∙ sym (trace_more m f t);
  cells_are = moved ∙ (λ i. next (before.cells_are i) (bit i)) ∙ sym (after_more m f t);
}

pub after_append : (m : Cells) (us vs : List Bool) → after m (us ++ vs) ≡ after (after m us) vs
after_append m [] vs = refl
after_append m (u ∷ us) vs = after_append (next m u) us vs

-- the bits from the first t on are those of a later function
pub first_split : (f : ℕ → Bool) (t c : ℕ) → first f (t + c) ≡ first f t ++ first (λ k. f (t + k)) c
first_split f t zero =
    let same : t + 0 ≡ t = omega arith in
    ap (first f) same ∙ sym (append-nil (first f t))
first_split f t (suc c) =
    let later : t + suc c ≡ t + c + 1 = omega arith in
    let one : c + 1 ≡ suc c = omega arith in
    let g : ℕ → Bool = λ k. f (t + k) in
    ap (first f) later
    ∙ map-range_with_len_more f 0 (t + c) (t + c) (omega arith)
    ∙ ap (λ bits. bits ++ f (t + c) ∷ []) (first_split f t c)
    ∙ append_assoc (first f t) (first g c) (f (t + c) ∷ [])
    ∙ ap (λ bits. first f t ++ bits) (sym (map-range_with_len_more g 0 c c (omega arith)) ∙ ap (first g) one)

-- what the register answers behind the first t bits of a message of t + c
pub coded_behind : (f : ℕ → Bool) (t c i : ℕ) (d : Outputs)
    → get_or (coded (first f (t + c))) (t + i) d
    ≡ get_or (trace (after cleared (first f t)) (first (λ k. f (t + k)) c ++ tail (after cleared (first f (t + c))))) i d
coded_behind f t c i d =
    let own = first f t in
    let later = first (λ k. f (t + k)) c in
    let end = tail (after cleared (first f (t + c))) in
    let long : length (trace cleared own) ≡ t = trace_length cleared own ∙ length-map-range_with_len f 0 t in
    let back : t + i - t ≡ i = omega arith in
    ap (λ bits. get_or (trace cleared (bits ++ end)) (t + i) d) (first_split f t c)
    ∙ ap (λ bits. get_or (trace cleared bits) (t + i) d) (append_assoc own later end)
    ∙ ap (λ steps. get_or steps (t + i) d) (trace_append cleared own (later ++ end))
    ∙ get_or-append_right (trace cleared own) (trace (after cleared own) (later ++ end)) t (t + i) d long (omega arith)
    ∙ ap (λ k. get_or (trace (after cleared own) (later ++ end)) k d) back

-- what it answers to the first bits of these does not rest on the others
pub trace_front : (m : Cells) (us vs : List Bool) (i : ℕ) (d : Outputs) → i < length us → get_or (trace m (us ++ vs)) i d ≡ get_or (trace m us) i d
trace_front m us vs i d h =
    ap (λ steps. get_or steps i d) (trace_append m us vs)
    ∙ get_or_append_left (trace m us) (trace (after m us) vs) d i (omega (arith, trace_length m us))
