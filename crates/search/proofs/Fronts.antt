-- A buffer whose front is replaced by as many places. Assumes nothing.
use Rattle.std.proofs.Common.{◌≡◌, ℕ, ◌≤◌, List, ◌++◌, length, drop, ◌∙◌, arith}
use Rattle.std.proofs.lemmas.List.{drop_at, length-append, length-drop}
use Rattle.search.specs.Scratch.{UsesFront}

pub front_of : {A : Type 0} (k : ℕ) (before new : List A) → length new ≡ k → k ≤ length before → UsesFront k before (new ++ drop k before)
front_of k before new e h = record {
  long = length-append new (drop k before) ∙ omega (arith, e, length-drop k before);
  rest = drop_at new (drop k before) k e;
}
