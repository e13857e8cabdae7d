-- The rows of a coded message, and the buffer by its rows. Assumes nothing.
use Rattle.std.proofs.Common.{◌≡◌, ℕ, ◌+◌, ◌-◌, ◌*◌, ◌/◌, ◌%◌, ◌<◌, ◌≤◌, Bool, true, false, cond, List, [], ◌∷◌, ◌++◌, length, get_or, set, eqb, mul_comm, sym, refl, ap, ◌∙◌, inl, inr, lit<, arith}
use Rattle.std.proofs.lemmas.Bool.{cases_eq, cases_lt, le-ltb, lt-ltb}
use Rattle.std.proofs.lemmas.List.{append_assoc, ext_get_or, get_or-set_other, get_or_append_left}
use Rattle.std.proofs.lemmas.List.FromFn.{get_or-map-range_with_len, length-map-range_with_len}
use Rattle.std.proofs.lemmas.Grind.{get_or-set_at}
use Rattle.std.proofs.lemmas.Nat.{div-mul-add, mod-mul-add, mod_below}
use Rattle.block.specs.Bits.{bit, bit_at, octet_of}
use Rattle.block.proofs.Laws.{bit_alone, octet_same}
use Rattle.block.proofs.Octets.{bit_octet}
use Rattle.code.specs.Places.{buffer_of, column_at, output, place_bit, row_at}
use Rattle.code.specs.Register.{Cells, after, cleared, coded, silent, tail, trace}
use Rattle.code.specs.Filling.{Filled, behind_octet, buffer_octet}
use Rattle.code.specs.Rows.{AreRows, blank, cell, first, octet_bits, steps_row, row_octet, row_output}
use Rattle.code.specs.declared.buffer.CodedBlock.{CodedBlock}
use Rattle.code.specs.declared.registers.Outputs.{Outputs}
use Rattle.code.specs.declared.rows.Row.{Row}
use Rattle.code.proofs.Runs.{after_append, coded_behind, first_split, trace_append, trace_front}

-- one entry more of a list that begins with what f gives
more : {A : Type 0} (d : A) (f : ℕ → A) (xs : List A) (n : ℕ) (y : A) → n < length xs → ((b : ℕ) → b < n → get_or xs b d ≡ f b) → y ≡ f n
    → (b : ℕ) → b < n + 1 → get_or (set xs n y) b d ≡ f b
more d f xs n y within before is b h =
    elim (cases_eq b n) [
      | inl same ↦ get_or-set_at xs n b y d same within ∙ is ∙ ap f (sym same)
      | inr other ↦ get_or-set_other xs n b y d other ∙ before b (omega arith)
    ]

pub more_rows : (steps : List Outputs) (rows : List Row) (n : ℕ) (y : Row) → n < length rows → AreRows steps n rows → y ≡ steps_row steps n → AreRows steps (n + 1) (set rows n y)
unfolding AreRows
more_rows steps rows n y within before is = more blank (steps_row steps) rows n y within before is

pub more_filled : (block : CodedBlock) (buffer : List ℕ) (t y : ℕ) → t < length buffer → Filled block t buffer → y ≡ buffer_octet block t
    → Filled block (t + 1) (set buffer t y)
unfolding Filled
more_filled block buffer t y within before is = more 0 (buffer_octet block) buffer t y within before is

pub no_rows : (steps : List Outputs) (rows : List Row) → AreRows steps 0 rows
unfolding AreRows
no_rows steps rows b h = absurd (omega arith)

pub none_filled : (block : CodedBlock) (buffer : List ℕ) → Filled block 0 buffer
unfolding Filled
none_filled block buffer b h = absurd (omega arith)

-- a row is fixed by its eight steps
pub row_same : (xs ys : List Outputs) (a b : ℕ) → ((i : ℕ) → i < 8 → get_or xs (8 * a + i) silent.outputs ≡ get_or ys (8 * b + i) silent.outputs) → steps_row xs a ≡ steps_row ys b
row_same xs ys a b e =
    let same : (o : ℕ) → row_octet o xs a ≡ row_octet o ys b = λ o. octet_same _ _ (λ i h. ap (output o) (e i h)) in
    λ j. record { v1 = same 1 j; v2 = same 2 j; v3 = same 3 j; v4 = same 4 j }

-- the bits of an octet, as those that f gives
pub octet_bits_are : (x : ℕ) (f : ℕ → Bool) → ((i : ℕ) → i < 8 → bit i x ≡ f i) → octet_bits x ≡ first f 8
octet_bits_are x f e =
    let p : (i : ℕ) → i < 8 → bit_at (x ∷ []) i ≡ f i = λ i h. bit_alone x i h ∙ e i h in
    λ j. p 0 (lit< tt) j ∷ p 1 (lit< tt) j ∷ p 2 (lit< tt) j ∷ p 3 (lit< tt) j ∷ p 4 (lit< tt) j ∷ p 5 (lit< tt) j ∷ p 6 (lit< tt) j ∷ p 7 (lit< tt) j ∷ []

-- one octet of a message, behind b others
module _ (f : ℕ → Bool) (b : ℕ) where
  abbrev here : ℕ → Bool
  here k = f (8 * b + k)

  abbrev begun : Cells
  begun = after cleared (first f (8 * b))

  pub after_octet : (x : ℕ) (m : Cells) → m ≡ begun → ((i : ℕ) → i < 8 → bit i x ≡ here i) → after m (octet_bits x) ≡ after cleared (first f (8 * (b + 1)))
  after_octet x m is e =
      let next : 8 * b + 8 ≡ 8 * (b + 1) = omega arith in
      (λ j. after (is j) (octet_bits_are x here e j))
      ∙ sym (after_append cleared (first f (8 * b)) (first here 8))
      ∙ ap (after cleared) (sym (first_split f (8 * b) 8))
      ∙ ap (λ t. after cleared (first f t)) next

  whole_at : (e i : ℕ) → i < 8 → get_or (coded (first f (8 * b + (8 + e)))) (8 * b + i) silent.outputs ≡ get_or (trace begun (first here 8)) i silent.outputs
  whole_at e i h =
      let end = tail (after cleared (first f (8 * b + (8 + e)))) in
      let others = first (λ k. here (8 + k)) e in
      coded_behind f (8 * b) (8 + e) i silent.outputs
      ∙ ap (λ bits. get_or (trace begun (bits ++ end)) i silent.outputs) (first_split here 8 e)
      ∙ ap (λ bits. get_or (trace begun bits) i silent.outputs) (append_assoc (first here 8) others end)
      ∙ trace_front begun (first here 8) (others ++ end) i silent.outputs h

  pub whole_row : (x total : ℕ) (m : Cells) → 8 * b + 8 ≤ total → m ≡ begun → ((i : ℕ) → i < 8 → bit i x ≡ here i)
      → steps_row (trace m (octet_bits x)) 0 ≡ steps_row (coded (first f total)) b
  whole_row x total m within is bits =
      let e = total - (8 * b + 8) in
      let whole : 8 * b + (8 + e) ≡ total = omega arith in
      row_same (trace m (octet_bits x)) (coded (first f total)) 0 b (λ i h.
      let zeroth : 8 * 0 + i ≡ i = omega arith in
      (λ j. get_or (trace (is j) (octet_bits_are x here bits j)) (zeroth j) silent.outputs)
      ∙ sym (whole_at e i h)
      ∙ ap (λ t. get_or (coded (first f t)) (8 * b + i) silent.outputs) whole)

  -- the last octet: four bits of the message, and the tail
  pub closed_row : (total : ℕ) (m after_all : Cells) (steps : List Outputs) → 8 * b + 4 ≡ total → m ≡ begun → after_all ≡ after m (first here 4)
      → steps ≡ trace m (first here 4) ++ trace after_all (tail after_all) → steps_row steps 0 ≡ steps_row (coded (first f total)) b
  closed_row total m after_all steps whole is moved made =
      let own = first here 4 in
      let all : after_all ≡ after begun own = moved ∙ ap (λ c. after c own) is in
      let end : after begun own ≡ after cleared (first f (8 * b + 4)) =
      sym (after_append cleared (first f (8 * b)) own) ∙ ap (after cleared) (sym (first_split f (8 * b) 4)) in
      let there : steps ≡ trace begun (own ++ tail (after cleared (first f (8 * b + 4)))) =
      made
      ∙ (λ j. trace (is j) own ++ trace (all j) (tail (all j)))
      ∙ sym (trace_append begun own (tail (after begun own)))
      ∙ ap (λ c. trace begun (own ++ tail c)) end in
      row_same steps (coded (first f total)) 0 b (λ i h.
      let zeroth : 8 * 0 + i ≡ i = omega arith in
      (λ j. get_or (there j) (zeroth j) silent.outputs)
      ∙ sym (coded_behind f (8 * b) 4 i silent.outputs)
      ∙ ap (λ t. get_or (coded (first f t)) (8 * b + i) silent.outputs) whole)

-- an output of a row, as the octet of that output
picked : (a b c : Bool) (v : ℕ → Outputs)
    → cond a (octet_of (λ i. (v i).v1)) (cond b (octet_of (λ i. (v i).v2)) (cond c (octet_of (λ i. (v i).v3)) (octet_of (λ i. (v i).v4))))
    ≡ octet_of (λ i. cond a (v i).v1 (cond b (v i).v2 (cond c (v i).v3 (v i).v4)))
picked true b c v = refl
picked false true c v = refl
picked false false true v = refl
picked false false false v = refl

pub row_output_is : (o : ℕ) (steps : List Outputs) (r : ℕ) → row_output o (steps_row steps r) ≡ row_octet o steps r
row_output_is o steps r = picked (eqb o 1) (eqb o 2) (eqb o 3) (λ i. get_or steps (8 * r + i) silent.outputs)

-- the buffer, where its rows are those of the steps
module _ (block : CodedBlock) (steps : List Outputs) (are : AreRows steps block.n block.rows.now) where
  abbrev order : List ℕ
  order = block.order.now.columns

  abbrev n : ℕ
  n = block.n

  abbrev rows : List Row
  rows = block.rows.now

  own_bit : (p : ℕ) → p < 8 * n → output 1 (get_or steps p silent.outputs) ≡ place_bit order n steps p
  unfolding place_bit
  own_bit p h =
      sym (ap (λ own. output (cond own 1 (column_at order n p / 8 + 2)) (get_or steps (cond own p (8 * row_at n p + column_at order n p % 8)) silent.outputs)) (lt-ltb p (8 * n) h))

  behind_bit : (p : ℕ) → 1 ≤ n → 8 * n ≤ p → cell rows (get_or order ((p - 8 * n) / n) 0) ((p - 8 * n) % n) ≡ place_bit order n steps p
  unfolding place_bit AreRows
  behind_bit p some h =
      let r = row_at n p in
      let c = column_at order n p in
      let o = c / 8 + 2 in
      ap (λ row. bit (c % 8) (row_output o row)) (are r (mod_below (p - 8 * n) n some))
      ∙ ap (bit (c % 8)) (row_output_is o steps r)
      ∙ bit_octet (λ i. output o (get_or steps (8 * r + i) silent.outputs)) (c % 8) (omega arith)
      ∙ sym (ap (λ own. output (cond own 1 o) (get_or steps (cond own p (8 * r + c % 8)) silent.outputs)) (le-ltb p (8 * n) h))

  octet_right : (b : ℕ) → 1 ≤ n → buffer_octet block b ≡ octet_of (λ i. place_bit order n steps (8 * b + i))
  unfolding buffer_octet AreRows
  octet_right b some =
      elim (cases_lt b n) [
        | inl own ↦ ap (λ t. cond t (get_or rows b blank).v1 (behind_octet block b)) (lt-ltb b n own)
            ∙ ap (λ row. row.v1) (are b own)
            ∙ octet_same _ _ (λ i h. own_bit (8 * b + i) (omega arith))
        | inr behind ↦ ap (λ t. cond t (get_or rows b blank).v1 (behind_octet block b)) (le-ltb b n behind)
            ∙ octet_same _ _ (λ i h. behind_bit (8 * b + i) some (omega arith))
      ]

  pub filled_right : (buffer : List ℕ) → 1 ≤ n → length buffer ≡ 4 * n → Filled block (4 * n) buffer → buffer ≡ buffer_of order n steps
  unfolding Filled
  filled_right buffer some long there =
      let f : ℕ → ℕ = λ b. octet_of (λ i. place_bit order n steps (8 * b + i)) in
      ext_get_or 0 buffer (buffer_of order n steps) (long ∙ sym (length-map-range_with_len f 0 (4 * n))) (λ b h.
      let within : b < 4 * n = omega (arith, long) in
      there b within ∙ octet_right b some ∙ sym (get_or-map-range_with_len f 0 (4 * n) b b 0 within (omega arith)))

-- octets of the buffer, by where they lie
pub own_octet : (block : CodedBlock) (b : ℕ) → b < block.n → (get_or block.rows.now b blank).v1 ≡ buffer_octet block b
unfolding buffer_octet
own_octet block b own = sym (ap (λ t. cond t (get_or block.rows.now b blank).v1 (behind_octet block b)) (lt-ltb b block.n own))

pub octet_behind : (block : CodedBlock) (b : ℕ) → block.n ≤ b → behind_octet block b ≡ buffer_octet block b
unfolding buffer_octet
octet_behind block b behind = sym (ap (λ t. cond t (get_or block.rows.now b blank).v1 (behind_octet block b)) (le-ltb b block.n behind))

-- an octet behind output 1 whose bits are all of one column, from row r on
pub in_column : (block : CodedBlock) (index b r : ℕ) → block.n ≤ b → 8 * b ≡ 8 * block.n + (block.n * index + r) → r + 8 ≤ block.n
    → octet_of (λ i. cell block.rows.now (get_or block.order.now.columns index 0) (r + i)) ≡ buffer_octet block b
in_column block index b r behind at within =
    let order = block.order.now.columns in
    let n = block.n in
    let rows = block.rows.now in
    octet_same _ _ (λ i h.
    let q : 8 * b + i - 8 * n ≡ index * n + (r + i) = omega (arith, mul_comm n index) in
    let row : (index * n + (r + i)) / n ≡ index = div-mul-add index n (r + i) (omega arith) in
    let rest : (index * n + (r + i)) % n ≡ r + i = mod-mul-add index n (r + i) (omega arith) in
    sym ((λ j. cell rows (get_or order (q j / n) 0) (q j % n)) ∙ (λ j. cell rows (get_or order (row j) 0) (rest j))))
    ∙ octet_behind block b behind

-- rows with others behind them
pub rows_before : (steps : List Outputs) (rows others : List Row) (n : ℕ) → n ≤ length rows → AreRows steps n rows → AreRows steps n (rows ++ others)
unfolding AreRows
rows_before steps rows others n long are b h = get_or_append_left rows others blank b (omega arith) ∙ are b h
