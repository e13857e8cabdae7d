-- What was read in two parts. Assumes nothing.
use Rattle.std.proofs.Common.{◌≡◌, ℕ, ◌+◌, ◌-◌, ◌≤◌, List, ◌++◌, length, take, Option, sym, ap, ◌∙◌, subst}
use Rattle.std.proofs.Math.Seq.{take-append-add}
use Rattle.std.proofs.lemmas.List.{length-take-le, take-append-le}
use Rattle.std.proofs.KnownBytes.{Consumes-trans}
use Rattle.std.specs.Io.KnownBytes.{Consumes}
use borrow.Rule.Slice.PartMut.{put_mid, post_of}

-- the front of a buffer whose rest was written from the place on that it was filled to
pub front_filled : (filled count : ℕ) (buffer part : List ℕ) → filled ≤ length buffer → count ≤ length part
    → take (filled + count) (put_mid filled (length buffer - filled) buffer part) ≡ take filled buffer ++ take count part
front_filled filled count buffer part low fits =
    let front = take filled buffer in
    let rest = post_of filled (length buffer - filled) buffer in
    ap (λ n. take (n + count) (front ++ (part ++ rest))) (sym (length-take-le filled buffer low))
    ∙ take-append-add front (part ++ rest) count
    ∙ ap (λ xs. front ++ xs) (take-append-le count part rest fits)

pub both_read : (filled count : ℕ) (buffer part : List ℕ) (first second third : Option (List ℕ)) → filled ≤ length buffer → count ≤ length part
    → Consumes first second (take filled buffer) → Consumes second third (take count part)
    → Consumes first third (take (filled + count) (put_mid filled (length buffer - filled) buffer part))
both_read filled count buffer part first second third low fits one two =
    subst (Consumes first third) (sym (front_filled filled count buffer part low fits)) (Consumes-trans first second third (take filled buffer) (take count part) one two)
