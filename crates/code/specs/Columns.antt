-- Column orders. Assumes nothing.
use Rattle.std.specs.Prelude.{ℕ, zero, suc, ◌+◌, ◌-◌, ◌%◌, Bool, true, cond, ◌&&◌, List, [], ◌∷◌}
use Rattle.std.specs.Prelude.{◌++◌, map, length, ◌==◌, nat_lt, slice_index}
use Rattle.std.specs.Bool.{beq}
use Rattle.block.specs.Bits.{bit}
use Rattle.block.specs.Computed.{passes}

-- how often a stands in a list of columns
abbrev pub count_of : ℕ → List ℕ → ℕ
count_of a [] = 0
count_of a (c ∷ cs) = cond (c == a) 1 0 + count_of a cs

-- each number below n stands in the list once
abbrev pub each_once : ℕ → List ℕ → Bool
each_once zero cs = true
each_once (suc n) cs = count_of n cs == 1 && each_once n cs

-- each number of the list is below n
abbrev pub all_below : ℕ → List ℕ → Bool
all_below n [] = true
all_below n (c ∷ cs) = nat_lt c n && all_below n cs

-- a column order lists 24 columns, 0 to 23, each of them once
unfoldable pub is_order : List ℕ → Bool
is_order cs = length cs == 24 && (all_below 24 cs && each_once 24 cs)

-- the index at which a column stands
abbrev pub index_of : ℕ → List ℕ → ℕ
index_of a [] = 0
index_of a (c ∷ cs) = cond (c == a) 0 (1 + index_of a cs)

-- order R: columns 0, 4, 2, 6, 1, 5, 3, 7, then the same eight plus 8, then the same eight plus 16
abbrev eight : List ℕ
eight = 0 ∷ 4 ∷ 2 ∷ 6 ∷ 1 ∷ 5 ∷ 3 ∷ 7 ∷ []

abbrev pub order_r : List ℕ
order_r = eight ++ (map (λ a. a + 8) eight ++ map (λ a. a + 16) eight)

-- The puncturing table of the standard, its rows for the outputs 2, 3 and 4: entry k of a row is
-- the mask of the columns that the rate 8 / (8 + k) keeps of that output. The highest bit of a mask
-- is the first of its eight columns.
abbrev pub masks_2 : List ℕ
masks_2 =
    0x00 ∷ 0x80 ∷ 0x88 ∷ 0xa8 ∷ 0xaa ∷ 0xea ∷ 0xee ∷ 0xfe ∷ 0xff ∷ 0xff ∷ 0xff ∷ 0xff ∷ 0xff ∷
    0xff ∷ 0xff ∷ 0xff ∷ 0xff ∷ 0xff ∷ 0xff ∷ 0xff ∷ 0xff ∷ 0xff ∷ 0xff ∷ 0xff ∷ 0xff ∷ []

abbrev pub masks_3 : List ℕ
masks_3 =
    0x00 ∷ 0x00 ∷ 0x00 ∷ 0x00 ∷ 0x00 ∷ 0x00 ∷ 0x00 ∷ 0x00 ∷ 0x00 ∷ 0x80 ∷ 0x88 ∷ 0xa8 ∷ 0xaa ∷
    0xea ∷ 0xee ∷ 0xfe ∷ 0xff ∷ 0xff ∷ 0xff ∷ 0xff ∷ 0xff ∷ 0xff ∷ 0xff ∷ 0xff ∷ 0xff ∷ []

abbrev pub masks_4 : List ℕ
masks_4 =
    0x00 ∷ 0x00 ∷ 0x00 ∷ 0x00 ∷ 0x00 ∷ 0x00 ∷ 0x00 ∷ 0x00 ∷ 0x00 ∷ 0x00 ∷ 0x00 ∷ 0x00 ∷ 0x00 ∷
    0x00 ∷ 0x00 ∷ 0x00 ∷ 0x00 ∷ 0x80 ∷ 0x88 ∷ 0xa8 ∷ 0xaa ∷ 0xea ∷ 0xee ∷ 0xfe ∷ 0xff ∷ []

-- the masks for the output that column a belongs to
abbrev pub masks_for : ℕ → List ℕ
masks_for a = cond (nat_lt a 8) masks_2 (cond (nat_lt a 16) masks_3 masks_4)

-- the rate 8 / (8 + k) keeps column a
abbrev pub keeps : ℕ → ℕ → Bool
keeps k a = bit (7 - a % 8) (slice_index (masks_for a) k)

-- each rate keeps just the columns that stand at the first k indices of the order
unfoldable pub follows_masks : List ℕ → Bool
follows_masks cs = passes 25 (λ k. passes 24 (λ a. beq (keeps k a) (nat_lt (index_of a cs) k)))
