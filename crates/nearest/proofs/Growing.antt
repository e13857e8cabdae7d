-- Without a performed wipe no entry gets lighter, so no decoded weight falls. Assumes nothing.
use Rattle.std.proofs.Common.{◌≡◌, ℕ, ◌*◌, ◌<◌, Bool, cond, eqb, List, [], ◌∷◌, length, take, Ok, Err, sym, ap, subst, arith}
use Rattle.std.proofs.lemmas.List.FromFn.{length-map-range_with_len}
use Rattle.std.proofs.lemmas.Bool.{cond_both}
use Rattle.block.specs.Bits.{bit_at}
use Rattle.code.specs.Shapes.{Shape, block_length, message_length, places}
use Rattle.weighing.specs.Alphabets.{Alphabet}
use Rattle.weighing.specs.Scales.{Scale}
use Rattle.weighing.specs.declared.Weighing.{Ghosts}
use Rattle.search.specs.Found.{message_at}
use Rattle.search.specs.Weights.{entry_sums, weight_of}
use Rattle.search.specs.declared.refusal.FindRefusal.{FindRefusal}
use Rattle.search.proofs.Growth.{weight_grows}
use Rattle.search.proofs.Orders.{reflexive}
use Rattle.sheet.specs.Books.{Book, laid, sum_behind}
use Rattle.sheet.specs.Calls.{Laid, block_length_of}
use Rattle.sheet.specs.Runs.{Agrees, Call, RunStep, IsNoWipe, NoWipe, SamePlaces, Standing, RunSteps, decodes, book_behind, takes, wipes}
use Rattle.nearest.specs.Whole.{GrowthPart}
use Rattle.sheet.proofs.Keeping.{step_agrees, lent_sums, named_at, ordered, own_stays, run_agrees, same_sums, steps_agree, whole}

-- what is added behind a weight does not make it lighter
sum_grows : {A V : Type 0} (a : Alphabet A V) (s : Scale V) (xs : List (ℕ × A)) (w : s.Meaning) (p : ℕ) (b : Bool) → s.atmost w (sum_behind a s w p b xs)
sum_grows a s [] w p b = reflexive s w
sum_grows a s (x ∷ xs) w p b =
    let step = cond (eqb x.0 p) (s.plus w (s.mean (a.against x.1 b))) w in
    s.laws.transitive w step _
    (cond_both (eqb x.0 p) (s.plus w (s.mean (a.against x.1 b))) w (s.atmost w) (λ _. s.laws.first_within w (s.mean (a.against x.1 b))) (λ _. reflexive s w))
    (sum_grows a s xs step p b)

module _ {W V A : Type 0} (g : Ghosts W V) (a : Alphabet A V) (shape : Shape) where
  abbrev s : Scale V
  s = g.scale

  -- no entry of the block's places gets lighter
  abbrev Heavier : Standing g → Standing g → Type 0
  Heavier before after = (p : ℕ) (b : Bool) → p < places shape → s.atmost (entry_sums s before.tally p b) (entry_sums s after.tally p b)

  same_heavier : (book : Book) (before after : Standing g) → Agrees g a shape book before → SamePlaces (block_length_of before.sheet) after.tally before.tally → Heavier before after
  same_heavier book before after agrees same p b h =
      let own : SamePlaces (block_length shape) after.tally before.tally = subst (λ (x : Shape). SamePlaces (block_length x) after.tally before.tally) agrees.shape_is same in
      rw (same_sums s (block_length shape) after.tally before.tally own p b h) (reflexive s (entry_sums s before.tally p b))

  step_heavier : (book : Book) (before : Standing g) (call : Call V) (after : Standing g) → Agrees g a shape book before → RunStep g a before call after → IsNoWipe call → Heavier before after
  step_heavier book before (takes start octets lent left (Err e)) after agrees does clean = same_heavier book before after agrees (ap (take (32 * block_length_of before.sheet)) does.1)
  step_heavier book before (takes start octets lent left (Ok taken)) after agrees does clean = λ p b h.
      let lays : Laid a s (block_length shape) start octets lent left = subst (λ (x : Shape). Laid a s (block_length x) start octets lent left) agrees.shape_is does.0.1.lays in
      let same : entry_sums s lent p b ≡ entry_sums s before.tally p b = lent_sums g a shape book before agrees lent does.1.0 p b h in
      rw (sym does.1.1, lays.sums p b h, same) (sum_grows a s (laid a (places shape) (8 * start) octets) (entry_sums s before.tally p b) p b)
  step_heavier book before (decodes lent target target' scratch scratch' (Ok d)) after agrees does clean =
      same_heavier book before after agrees (own_stays {E = FindRefusal} (block_length_of before.sheet) (Ok d) lent before.tally after.tally does.1)
  step_heavier book before (decodes lent target target' scratch scratch' (Err e)) after agrees does clean =
      same_heavier book before after agrees (ap (take (32 * block_length_of before.sheet)) does.1)
  step_heavier book before (wipes lent left (Ok x)) after agrees does clean = absurd clean
  step_heavier book before (wipes lent left (Err e)) after agrees does clean = same_heavier book before after agrees (ap (take (32 * block_length_of before.sheet)) does.1)

  steps_heavier : (book : Book) (from : Standing g) (calls : List (Call V)) (to : Standing g) → Agrees g a shape book from → RunSteps g a from calls to → NoWipe calls → Heavier from to
  steps_heavier book from [] to agrees same clean = λ p b h. subst (λ (x : Standing g). s.atmost (entry_sums s from.tally p b) (entry_sums s x.tally p b)) (sym same) (reflexive s (entry_sums s from.tally p b))
  steps_heavier book from (call ∷ calls) to agrees went clean = λ p b h.
      s.laws.transitive _ (entry_sums s went.0.tally p b) _ (step_heavier book from call went.0 agrees went.1 clean.0 p b h)
      (steps_heavier (book_behind book call) went.0 calls to (step_agrees g a shape book from call went.0 agrees went.1) went.2 clean.1 p b h)

pub growth_part : {W V A : Type 0} (g : Ghosts W V) (a : Alphabet A V) → GrowthPart g a
growth_part g a shape calls between first later run went clean target₁ target₁' target₂ target₂' decoded₁ decoded₂ d₁ d₂ =
    let s = g.scale in
    let before = run_agrees g a shape calls first run in
    let after = steps_agree g a shape _ first between later before went in
    let named₁ = named_at g a shape _ first before target₁ target₁' decoded₁ d₁ in
    let named₂ = named_at g a shape _ later after target₂ target₂' decoded₂ d₂ in
    let second = message_at shape target₂' in
    let long : length second ≡ message_length shape = length-map-range_with_len (bit_at target₂') 0 (message_length shape) in
    let heavier : (p : ℕ) (b : Bool) → p < places shape → s.atmost (entry_sums s d₁.lent p b) (entry_sums s d₂.lent p b) =
    λ p b h.
    rw (lent_sums g a shape _ first before d₁.lent d₁.own p b h, lent_sums g a shape _ later after d₂.lent d₂.own p b h)
    (steps_heavier g a shape _ first between later before went clean p b h) in
    rw (named₁.names.weighs, named₂.names.weighs)
    (s.laws.transitive _ (weight_of s shape (entry_sums s d₁.lent) second) _ (named₁.names.nearest second long)
    (weight_grows s shape.order (ordered first.sheet shape before.shape_is) (block_length shape) _ _ heavier second (omega (arith, long, whole first.sheet shape before.shape_is))))
