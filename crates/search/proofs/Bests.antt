-- The search's invariant: it holds at the start, one step keeps it. Assumes nothing.
use Rattle.std.proofs.Common.{◌≡◌, ℕ, zero, suc, ◌<◌, ◌≤◌, Bool, List, [], ◌∷◌, ◌++◌, length, get_or, IfSome, Some, None, Option, sym, refl, ap, ◌∙◌, subst, arith, set, replicate, ◌+◌, add-one, get_or-set_other, get_or-set_same, MatchOption}
use Rattle.std.specs.Option.{option_map}
use Rattle.std.proofs.lemmas.List.{get_or-replicate, get_or_append_left}
use Rattle.block.specs.Bits.{bit}
use Rattle.code.specs.declared.registers.Outputs.{Outputs}
use Rattle.code.specs.Register.{Cells, cells_of, next, outputs, state_of}
use Rattle.code.proofs.Steps.{cells_state}
use Rattle.weighing.specs.Scales.{Scale}
use Rattle.search.specs.Weights.{Sums}
use Rattle.search.specs.Paths.{Best, IsPath, Lighter, Lightest, behind, branch_weight, ends, input, named_predecessor, path_meaning, path_weight, predecessor, survivor_path}
use Rattle.search.specs.Steps.{Survives, TrellisStep, through}
use Rattle.search.proofs.Orders.{reflexive, lighter_behind, lighter_trans}
use Rattle.search.proofs.Trellis.{came_from, leads, length-survivor_path, predecessor_small, state_small, survivor_path-same}

module _ {V : Type 0} (s : Scale V) (order : List ℕ) (n : ℕ) (sums : Sums s) where
  -- before the first step only state 0 is reached, with weight zero
  module _ (survivors : List ℕ) (z : V) (zero_is : s.mean z ≡ s.zero) where
    abbrev begun : List (Option V)
    begun = set (replicate 16 None) 0 (Some z)

    start_held : (k : ℕ) → k < 16 → IfSome (path_meaning s begun k) (IsPath s order n sums (survivor_path survivors 0 k) k)
    start_held zero h = (refl, zero_is)
    start_held (suc k) h =
        subst (λ x. IfSome (option_map s.mean x) (IsPath s order n sums [] (suc k))) (sym (get_or-replicate 15 k None None (omega arith))) tt

    start_every : (k : ℕ) (us : List Bool) → length us ≡ 0 → state_of (ends us) ≡ k → Lighter s (path_meaning s begun k) (Some (path_weight s order n sums us))
    start_every k [] e to = subst (λ j. Lighter s (path_meaning s begun j) (Some s.zero)) to (subst (λ w. s.atmost w s.zero) (sym zero_is) (reflexive s s.zero))
    start_every k (u ∷ us) e to = absurd (omega arith)

    pub best_start : Best s order n sums survivors (path_meaning s begun) 0
    best_start k h = record { every = start_every k; held = start_held k h }

  -- words behind those of the steps change nothing
  pub lightest_behind : (survivors rest : List ℕ) (t k : ℕ) (w : Option s.Meaning) → t ≤ length survivors
      → Lightest s order n sums survivors t k w → Lightest s order n sums (survivors ++ rest) t k w
  lightest_behind survivors rest t k w within lightest =
      let same : survivor_path survivors t k ≡ survivor_path (survivors ++ rest) t k =
      survivor_path-same survivors (survivors ++ rest) t k (λ i h. sym (get_or_append_left survivors rest 0 i (omega arith))) in
      record {
        every = lightest.every;
        held = subst (λ us. MatchOption w (Unit {0}) (IsPath s order n sums us k)) same lightest.held;
      }

  module _ (survivors kept : List ℕ) (paths new : ℕ → Option s.Meaning) (t word : ℕ)
      (best : Best s order n sums survivors paths t)
      (same : (k : ℕ) → k < t → get_or kept k 0 ≡ get_or survivors k 0)
      (noted : get_or kept t 0 ≡ word) where
    abbrev step : TrellisStep s
    step = record { branch = branch_weight s order n sums t; before = paths }

    module _ (selected : (k : ℕ) → k < 16 → Survives step (new k) (bit k word) k) where
      is_through : (k : ℕ) → k < 16 → new k ≡ behind s (paths (named_predecessor word k)) (branch_weight s order n sums t (outputs (cells_of (named_predecessor word k)) (input (named_predecessor word k) k)))
      unfolding through
      is_through k h = (selected k h).is

      -- a step that is made goes through one of the two predecessors
      along : (m : Cells) (u : Bool) → through step (bit 0 (state_of m)) (state_of (next m u)) ≡ behind s (paths (state_of m)) (branch_weight s order n sums t (outputs m u))
      unfolding through
      along m u =
          let k = state_of (next m u) in
          let came = came_from m u in
          ap (λ p. behind s (paths p) (branch_weight s order n sums t (outputs (cells_of p) (input p k)))) came.0
          ∙ (λ i. behind s (paths (state_of m)) (branch_weight s order n sums t (outputs (cells_state m i) (came.1 i))))

      -- one bit more behind the path to a predecessor
      extend : (p k : ℕ) (x : Option s.Meaning) (odd : Bool) → predecessor odd k ≡ p → k < 16 → (before : List Bool) → length before ≡ t
          → IfSome x (IsPath s order n sums before p)
          → IfSome (behind s x (branch_weight s order n sums t (outputs (cells_of p) (input p k)))) (IsPath s order n sums (input p k ∷ before) k)
      extend p k None odd is h before long held = tt
      extend p k (Some w) odd is h before long held =
          let cells : cells_of p ≡ ends before = ap cells_of (sym held.0) ∙ cells_state (ends before) in (
            sym (ap (λ m. state_of (next m (input p k))) cells) ∙ subst (λ q. state_of (next (cells_of q) (input q k)) ≡ k) is (leads odd k h),
            (λ i. s.plus (held.1 i) (branch_weight s order n sums (sym long i) (outputs (cells i) (input p k)))),
          )

      step_every : (us : List Bool) → length us ≡ suc t → Lighter s (new (state_of (ends us))) (Some (path_weight s order n sums us))
      step_every [] e = absurd (omega arith)
      step_every (u ∷ us) e =
          let m = ends us in
          let k = state_of (next m u) in
          let odd = bit 0 (state_of m) in
          let long : length us ≡ t = omega arith in
          let c = branch_weight s order n sums t (outputs m u) in
          lighter_trans s (new k) (behind s (paths (state_of m)) c) (Some (path_weight s order n sums (u ∷ us)))
          (subst (Lighter s (new k)) (along m u) ((selected k (state_small (next m u))).least odd))
          (subst (λ l. Lighter s (behind s (paths (state_of m)) c) (Some (s.plus (path_weight s order n sums us) (branch_weight s order n sums l (outputs m u))))) (sym long)
          (lighter_behind s (paths (state_of m)) (Some (path_weight s order n sums us)) c ((best (state_of m) (state_small m)).every us long refl)))

      step_held : (k : ℕ) → k < 16 → IfSome (new k) (IsPath s order n sums (survivor_path kept (suc t) k) k)
      step_held k h =
          let p = named_predecessor word k in
          let before = survivor_path survivors t p in
          let given : survivor_path kept (suc t) k ≡ input p k ∷ before =
          ap (λ w. input (named_predecessor w k) k ∷ survivor_path kept t (named_predecessor w k)) noted
          ∙ ap (λ rest. input p k ∷ rest) (survivor_path-same kept survivors t p same) in
          subst (λ us. IfSome (new k) (IsPath s order n sums us k)) (sym given)
          (subst (λ x. IfSome x (IsPath s order n sums (input p k ∷ before) k)) (sym (is_through k h))
          (extend p k (paths p) (bit k word) refl h before (length-survivor_path survivors t p) (best p (predecessor_small (bit k word) k)).held))

      stepped : Best s order n sums kept new (suc t)
      stepped k h = record {
        every = λ us e to. subst (λ j. Lighter s (new j) (Some (path_weight s order n sums us))) to (step_every us e);
        held = step_held k h;
      }

  -- a step with the branch weights of its place that selects at each state, and notes its word
  pub best_more : (survivors : List ℕ) (step : TrellisStep s) (new : ℕ → Option s.Meaning) (t word : ℕ)
      → t < length survivors → Best s order n sums survivors step.before t
      → ((v : Outputs) → step.branch v ≡ branch_weight s order n sums t v)
      → ((k : ℕ) → k < 16 → Survives step (new k) (bit k word) k)
      → Best s order n sums (set survivors t word) new (t + 1)
  best_more survivors step new t word within best branches selected =
      let by : (Outputs → s.Meaning) → TrellisStep s = λ b. record { branch = b; before = step.before } in
      subst (Best s order n sums (set survivors t word) new) (sym (add-one t))
      (stepped survivors (set survivors t word) step.before new t word best
      (λ k h. get_or-set_other survivors t k word 0 (λ e. omega arith)) (get_or-set_same survivors t word 0 within)
      (λ k h. subst (λ b. Survives (by b) (new k) (bit k word) k) (λ i v. branches v i) (selected k h)))
