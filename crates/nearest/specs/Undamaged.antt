-- An undamaged first payload decodes to what was sent. Assumes nothing.
use Rattle.std.specs.Prelude.{◌≡◌, ℕ, ◌+◌, ◌*◌, ◌≤◌, List, [], ◌∷◌, map, length, slice_index, Ok}
use Rattle.std.specs.Prelude.{Result, MatchResult}
use Rattle.std.specs.Prelude.{None, replicate}
use Rattle.block.specs.Bits.{bits_of, value}
use Rattle.block.specs.Checks.{report_message}
use Rattle.block.specs.Refusals.{Performs}
use Rattle.block.specs.Sizes.{payload, plan_case, plan_checks}
use Rattle.block.specs.declared.plans.PlanRefusal.{PlanRefusal}
use Rattle.code.specs.Calls.{Encodes}
use Rattle.code.specs.Columns.{order_r}
use Rattle.code.specs.Shapes.{Shape, block_length}
use Rattle.weighing.specs.Hard.{hard_alphabet}
use Rattle.weighing.specs.Scales.{counted}
use Rattle.weighing.specs.declared.Weighing.{Ghosts}
use Rattle.weighing.specs.declared.hard.HardSymbol.{HardSymbol}
use Rattle.search.specs.Scratch.{Scratch, scratch_of}
use Rattle.search.specs.declared.Entry.{Entry}
use Rattle.search.specs.declared.refusal.FindRefusal.{FindRefusal}
use Rattle.sender.specs.Sendings.{Sending}
use Rattle.sheet.specs.Calls.{Decodes, Opens, Takes}
use Rattle.sheet.specs.Runs.{SamePlaces}
use Rattle.sheet.specs.declared.answers.Decoded.{Decoded}
use Rattle.sheet.specs.declared.answers.Taken.{Taken}
use Rattle.sheet.specs.declared.answers.Verdict.TheVariants.{Fits}
use Rattle.sheet.specs.declared.refusals.TakeRefusal.{TakeRefusal}
use Rattle.sheet.specs.declared.sheets.Sheet.{Sheet}
use Rattle.nearest.specs.ShortRuns.{ThreeCalls, loans}
use Rattle.nearest.specs.declared.runs.ShortRun.{ShortRun}

-- What a sender newly made for T and L has sent of a buffer, in confirmed passages that were asked
-- for so many octets in all.
pub record SentInAll (octets check : ℕ) (buffer : List ℕ) (asked : ℕ) (kept : List ℕ)
    : Type 0 where
  pub cursor : ℕ
  pub sending : Sending octets check buffer cursor kept asked

-- each bit of octets as one hard symbol, 0 or 1
abbrev pub heard : List ℕ → List ℕ
heard octets = map value (bits_of octets (8 * length octets))

-- the members of a weighing that counts
abbrev pub counting : {W : Type 0} → Ghosts W ℕ
counting = record { scale = counted }

-- A decode that is performed and names this, with weight 0 and a check that fits.
abbrev pub NamesWithoutWeight : Type 0 → Result (Decoded ℕ) FindRefusal → Type 0
NamesWithoutWeight Named r =
    MatchResult r (λ d. Named × (d.weight ≡ 0) × (d.verdict ≡ Fits)) (λ e. ⊥)

-- the shape of a report's block
abbrev pub shape_for : List ℕ → ℕ → List ℕ → Shape
shape_for report check order =
    record { octets = length report; check = check; order = order }

-- it names a report's message
abbrev pub NamesSent : List ℕ → ℕ → List ℕ → Result (Decoded ℕ) FindRefusal → Type 0
NamesSent report check target r =
    let octets = length report in
    NamesWithoutWeight (bits_of target (8 * octets + check) ≡ report_message report octets check) r

-- room for a block of so many octets in a decode's target and scratch
abbrev pub RoomFor : ℕ → List ℕ → Scratch ℕ → Type 0
RoomFor n target scratch =
    (n ≤ length target) × (8 * n ≤ length scratch.survivors) × (32 ≤ length scratch.paths)

-- A report is encoded, its first payload at rate 8 / (8 + k) is sent, and the hard reading takes
-- each bit of it, undamaged, from octet 0 on. The sheet is newly opened for the report's shape; the
-- tally that the take is lent has the entries that the opening left at the block's places.
pub record TakesUndamaged (W : Type 0) (report : List ℕ) (check k : ℕ) (order : List ℕ)
    (sheet : Sheet W ℕ counting) (left : List (Entry ℕ)) (r : Result Taken TakeRefusal)
    : Type 0 where
  pub before : List ℕ
  pub buffer : List ℕ
  pub encoding : Encodes report check order before buffer (Ok tt)
  pub kept : List ℕ
  pub sent : SentInAll (length report) check buffer (payload (length report) check k) kept
  pub tally : List (Entry ℕ)
  pub opened : List (Entry ℕ)
  pub new_sheet : Sheet W ℕ counting
  pub opening : Opens (shape_for report check order) tally opened (Ok new_sheet)
  pub lent : List (Entry ℕ)
  pub own : SamePlaces (block_length (shape_for report check order)) lent opened
  pub taking : Takes hard_alphabet new_sheet sheet lent left 0 (heard kept) r

-- Then the take is performed, and each decode right after it that is lent room enough, and the
-- entries that the take left at the block's places, names the message sent.
abbrev pub DecodesWhatWasSent : Type 0 → Type 0
DecodesWhatWasSent W =
    (report : List ℕ) (check k : ℕ) (order : List ℕ) → k ≤ 24
    → (sheet : Sheet W ℕ counting) (left : List (Entry ℕ)) (r : Result Taken TakeRefusal)
    → TakesUndamaged W report check k order sheet left r
    → (r ≡ Ok (record { total = 8 * payload (length report) check k }))
    × ((lent : List (Entry ℕ)) (target target' : List ℕ) (scratch scratch' : Scratch ℕ)
    (decoded : Result (Decoded ℕ) FindRefusal)
    → (let n = block_length (shape_for report check order) in
    SamePlaces n lent left → RoomFor n target scratch
    → Decodes sheet lent target target' scratch scratch' decoded
    → NamesSent report check target' decoded))

-- the scratch of the call itself, as it makes it for a block of two octets
abbrev pub new_scratch : Scratch ℕ
new_scratch = scratch_of (replicate 16 0) (replicate 32 None)

-- A report of one octet with a check of four bits is encoded in order R, its first payload is sent,
-- and a short run takes it by the hard reading from octet 0 on: what the calls did, and that the
-- report comes back, with weight 0 and a check that fits.
pub record UndamagedRun (W : Type 0) (report k : ℕ) (buffer buffer' : List ℕ)
    (tally tally' : List (Entry ℕ)) (target target' : List ℕ)
    (run : ShortRun W HardSymbol ℕ counting) : Type 0 where
  pub encoding : Encodes (report ∷ []) 4 order_r buffer buffer' (Ok tt)
  pub kept : List ℕ
  pub sent : SentInAll 1 4 buffer' (payload 1 4 k) kept
  pub scratch' : Scratch ℕ
  pub calls : ThreeCalls counting hard_alphabet 0 (heard kept)
      (loans tally target new_scratch) (loans tally' target' scratch') run
  pub back : NamesWithoutWeight (slice_index target' 0 ≡ report) run.decoded

-- Making such a run: where the rate is refused no call is made, and all is as it was.
abbrev pub MakesUndamaged : (W : Type 0) → ℕ → ℕ → (buffer buffer' : List ℕ)
    → (tally tally' : List (Entry ℕ)) → (target target' : List ℕ)
    → Result (ShortRun W HardSymbol ℕ counting) PlanRefusal → Type 0
MakesUndamaged W report k buffer buffer' tally tally' target target' r =
    Performs (plan_checks 1 4 k) plan_case
    (UndamagedRun W report k buffer buffer' tally tally' target target')
    ((buffer' ≡ buffer) × (tally' ≡ tally) × (target' ≡ target)) r
