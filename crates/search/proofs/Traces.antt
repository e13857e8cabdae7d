-- The way back along the survivors, step by step and octet by octet. Assumes nothing.
use Rattle.std.proofs.Common.{◌≡◌, ℕ, zero, suc, ◌+◌, ◌*◌, ◌<◌, ◌≤◌, Bool, false, List, [], ◌∷◌, ◌++◌, reverse, length, get_or, take, drop, set, sym, ap, ◌∙◌, add-one, add-suc, add-zero, add_comm, append_assoc, arith}
use mathlib.Core.List.{reverse-cons}
use Rattle.std.proofs.Math.Nat.{mul-suc, mul-zero}
use Rattle.std.proofs.Math.Seq.{drop-cons}
use Rattle.std.specs.Simd.{first_chunks}
use Rattle.std.proofs.lemmas.List.{drop-drop, drop-set, get_or-append-add, get_or-take, length-reverse, reverse-append, take-take, take_at}
use Rattle.search.specs.Paths.{input, named_predecessor, survivor_path, survivor_start}
use Rattle.search.proofs.Trellis.{length-survivor_path}

-- a value that is written from the back on makes one more right
pub right_more : {A : Type 0} (xs ys : List A) (above t : ℕ) (y d : A) → above ≡ t + 1 → t < length xs → t < length ys
    → drop above xs ≡ drop above ys → y ≡ get_or ys t d → drop t (set xs t y) ≡ drop t ys
right_more xs ys above t y d up within known right here =
    drop-set xs t y within ∙ (λ i. here i ∷ (ap (λ n. drop n xs) (sym up) ∙ right ∙ ap (λ n. drop n ys) (up ∙ add-one t)) i) ∙ sym (drop-cons ys t d known)

-- one step back: its bit comes in front of those that are written
pub step_more : (survivors : List ℕ) (bits : List Bool) (above t s p : ℕ) (u : Bool) → above ≡ t + 1 → t < length bits
    → p ≡ named_predecessor (get_or survivors t 0) s → u ≡ input p s
    → reverse (survivor_path survivors t p) ++ drop t (set bits t u) ≡ reverse (survivor_path survivors above s) ++ drop above bits
step_more survivors bits above t s p u up within from is =
    let q = named_predecessor (get_or survivors t 0) s in
    let back : ℕ → List Bool = λ x. reverse (survivor_path survivors t x) in
    ap (λ xs. back p ++ xs) (drop-set bits t u within) ∙ sym (append_assoc (back p) (u ∷ []) (drop (t + 1) bits))
    ∙ (λ i. (back (from i) ++ (is ∙ ap (λ x. input x s) from) i ∷ []) ++ drop (t + 1) bits)
    ∙ ap (λ xs. xs ++ drop (t + 1) bits) (sym (reverse-cons (input q s) (survivor_path survivors t q)) ∙ ap (λ n. reverse (survivor_path survivors n s)) (sym (add-one t)))
    ∙ ap (λ n. reverse (survivor_path survivors n s) ++ drop n bits) (sym up)

pub start_more : (survivors : List ℕ) (above t s p : ℕ) → above ≡ t + 1 → p ≡ named_predecessor (get_or survivors t 0) s → survivor_start survivors t p ≡ survivor_start survivors above s
start_more survivors above t s p up from = ap (survivor_start survivors t) from ∙ ap (λ n. survivor_start survivors n s) (sym (up ∙ add-one t))

-- a path by its last k steps and those before
pub split : (survivors words : List ℕ) (m k s : ℕ) → ((i : ℕ) → i < k → get_or words i 0 ≡ get_or survivors (m + i) 0)
    → survivor_path survivors (m + k) s ≡ survivor_path words k s ++ survivor_path survivors m (survivor_start words k s)
split survivors words m zero s same = ap (λ n. survivor_path survivors n s) (add-zero m)
split survivors words m (suc k) s same =
    let p : ℕ → ℕ = λ w. named_predecessor w s in
    ap (λ n. survivor_path survivors n s) (add-suc m k)
    ∙ ap (λ w. input (p w) s ∷ survivor_path survivors (m + k) (p w)) (sym (same k (omega arith)))
    ∙ ap (λ us. input (p (get_or words k 0)) s ∷ us) (split survivors words m k (p (get_or words k 0)) (λ i h. same i (omega arith)))

-- the steps from m on that have words of their own: where the path gives the first bits, so do they and the path up to them
module _ (survivors words : List ℕ) (all : List Bool) (m s : ℕ) (within : m + length words ≤ length all)
    (same : (i : ℕ) → i < length words → get_or words i 0 ≡ get_or survivors (m + i) 0)
    (traced : reverse (survivor_path survivors (m + length words) s) ≡ take (m + length words) all) where
  abbrev from : ℕ
  from = survivor_start words (length words) s

  abbrev before : List Bool
  before = reverse (survivor_path survivors m from)

  abbrev late : List Bool
  late = reverse (survivor_path words (length words) s)

  joined : before ++ late ≡ take (m + length words) all
  joined =
      sym (reverse-append (survivor_path words (length words) s) (survivor_path survivors m from))
      ∙ ap reverse (sym (split survivors words m (length words) s same)) ∙ traced

  before_long : length before ≡ m
  before_long = length-reverse (survivor_path survivors m from) ∙ length-survivor_path survivors m from

  pub before_words : before ≡ take m all
  before_words = sym (take_at before late m before_long) ∙ ap (take m) joined ∙ take-take m (m + length words) all (omega arith)

  pub bits_of_words : (i : ℕ) → i < length words → get_or late i false ≡ get_or all (m + i) false
  bits_of_words i h =
      sym (get_or-append-add before late i false)
      ∙ (λ j. get_or (joined j) (before_long j + i) false)
      ∙ get_or-take (m + length words) all (m + i) false (omega arith)

-- the chunk of index b
pub chunk_at : {A : Type 0} (n k b : ℕ) (xs : List A) (d : List A) → b < k → get_or (first_chunks n k xs) b d ≡ take n (drop (n * b) xs)
chunk_at n zero b xs d h = absurd (omega arith)
chunk_at n (suc k) zero xs d h = ap (λ m. take n (drop m xs)) (sym (mul-zero n))
chunk_at n (suc k) (suc b) xs d h =
    chunk_at n k b (drop n xs) d (omega arith) ∙ ap (take n) (drop-drop (n * b) n xs) ∙ ap (λ m. take n (drop m xs)) (add_comm n (n * b) ∙ sym (mul-suc n b))
