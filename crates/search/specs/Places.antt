-- Where the columns of a block stand. Assumes nothing.
use Rattle.std.specs.Prelude.{◌≡◌, ℕ, ◌+◌, ◌*◌, ◌<◌, ◌≤◌, List, slice_index}
use Rattle.code.specs.Columns.{index_of}

-- where each column begins, behind the 8 * N places of output 1
abbrev pub ColumnPlaces : List ℕ → ℕ → List ℕ → Type 0
ColumnPlaces order n places = (a : ℕ) → a < 24 → slice_index places a ≡ 8 * n + n * index_of a order

-- and each column ends within the buffer
abbrev pub WithinBuffer : ℕ → List ℕ → Type 0
WithinBuffer n places = (a : ℕ) → a < 24 → slice_index places a + n ≤ 32 * n
