-- The theorem on whole runs. Assumes nothing.
use Rattle.std.proofs.Common.{ap, ◌∙◌}
use Rattle.std.proofs.Common.{◌+◌, length}
use Rattle.code.specs.Shapes.{Shape}
use Rattle.weighing.specs.Alphabets.{Alphabet}
use Rattle.weighing.specs.declared.Weighing.{Ghosts}
use Rattle.sender.proofs.Rounds.{sends_in_rounds}
use Rattle.sheet.specs.Runs.{Agrees, Standing}
use Rattle.sheet.specs.Books.{Book}
use Rattle.sheet.proofs.Keeping.{named_by_book, run_agrees}
use Rattle.sheet.specs.Runs.{book_of}
use Rattle.nearest.specs.Whole.{ByTheBook, NearestMessage, TallyPart}
use Rattle.nearest.proofs.Growing.{growth_part}

module _ {W V A : Type 0} (g : Ghosts W V) (a : Alphabet A V) where
  by_the_book : (shape : Shape) (book : Book) (st : Standing g) → Agrees g a shape book st → ByTheBook g a shape book st
  by_the_book shape book st agrees = record {
    agrees = agrees;
    take_answers = λ lent left start octets sheet taken takes. takes.1.total_is ∙ ap (λ n. n + length octets) agrees.count_is;
    decode_names = named_by_book g a shape book st agrees;
  }

  tally_part : TallyPart g a
  tally_part shape calls st run = by_the_book shape (book_of calls) st (run_agrees g a shape calls st run)

  pub whole : NearestMessage g a
  whole = (tally_part, growth_part g a, sends_in_rounds)
