-- The lines of a listing, and their text. Assumes nothing.
use Rattle.std.specs.Prelude.{ℕ, ◌/◌, ◌%◌, false, List, [], ◌∷◌, ◌++◌, take, codes, decimal}
use Rattle.std.specs.Prelude.{flat_map, Some, None, Option}
use Rattle.std.specs.Fmt.{digit_glyph, with_newline, ◌++?◌}
use Rattle.sheet.specs.declared.answers.Verdict.{Verdict}
use Rattle.sheet.specs.declared.answers.Verdict.TheVariants.{Fits, DoesNotFit}
use Rattle.listing.specs.Faults.{Says, fault_says}
use Rattle.listing.specs.declared.faults.Fault.{Fault as FaultInCode}
use Rattle.listing.specs.declared.faults.Layer.{Layer}
use Rattle.listing.specs.declared.faults.Layer.TheVariants.{Listing, Sheet, Reading}
use Rattle.listing.specs.declared.lines.Line.{Line}
use Rattle.listing.specs.declared.lines.Line.TheVariants.{Decode, Fault, End}
use Rattle.listing.specs.declared.reports.Report.{Report}

-- What a line says: of a decode the record, the weight, the verdict on the check, and the octets
-- of the report that was named; of a fault the record; or the end, with the number of records read
-- whole.
pub data LineContent (V : Type 0) : Type 0 where
  decode_line : (record-number : ℕ) (weight : V) (verdict : Verdict) (octets : List ℕ)
      → LineContent V
  fault_line : (record-number : ℕ) (fault : FaultInCode) → LineContent V
  end_line : (records : ℕ) → LineContent V

-- the octets of a report that was named
abbrev pub report_octets : Report → List ℕ
report_octets report = take report.octets report.block

-- each case of a line, and its content
abbrev pub content : {V : Type 0} → Line V → LineContent V
content (Decode record-number weight verdict report) =
    decode_line record-number weight verdict (report_octets report)
content (Fault record-number fault) = fault_line record-number fault
content (End records) = end_line records

-- what is told by an answer of one line or none
abbrev pub answered : {V : Type 0} → Option (Line V) → List (LineContent V)
answered None = []
answered (Some line) = content line ∷ []

-- an octet as two digits of lower-case hex
abbrev pub hex_octet : ℕ → List ℕ
hex_octet octet = digit_glyph false (octet / 16) ∷ digit_glyph false (octet % 16) ∷ []

abbrev pub hex : List ℕ → List ℕ
hex octets = flat_map hex_octet octets

abbrev pub layer_letter : Layer → List ℕ
layer_letter Listing = codes "L"
layer_letter Sheet = codes "S"
layer_letter Reading = codes "K"

abbrev pub verdict_letter : Verdict → List ℕ
verdict_letter Fits = codes "Y"
verdict_letter DoesNotFit = codes "N"

-- the text of what a fault says
abbrev pub says_text : Says → List ℕ
says_text says =
    decimal says.place ++ codes " " ++ layer_letter says.layer ++ codes " " ++ decimal says.number

-- The text of a line, without the newline behind it. `shown` is the text of a weight.
abbrev pub text : {V : Type 0} → (V → Option (List ℕ)) → LineContent V → Option (List ℕ)
text shown (decode_line r weight verdict octets) =
    Some (codes "D " ++ decimal r ++ codes " ") ++? shown weight
    ++? Some (codes " " ++ verdict_letter verdict ++ codes " " ++ hex octets)
text shown (fault_line r fault) =
    Some (codes "F " ++ decimal r ++ codes " " ++ says_text (fault_says fault))
text shown (end_line r) = Some (codes "E " ++ decimal r)

-- the text of lines, each with a newline behind it
abbrev pub whole_text : {V : Type 0} → (V → Option (List ℕ)) → List (LineContent V)
    → Option (List ℕ)
whole_text shown [] = Some []
whole_text shown (line ∷ more) = with_newline (text shown line) ++? whole_text shown more
