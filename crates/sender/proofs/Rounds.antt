-- Every sending sends the buffer in rounds. Assumes nothing.
use Rattle.std.proofs.Common.{◌≡◌, ℕ, ◌+◌, ◌-◌, ◌%◌, ◌<◌, ◌≤◌, inl, inr, List, ◌++◌, map, length, sum, get_or, take, drop, None, Ok, Err, Result, rules, sym, refl, ap, ◌∙◌, subst, add-zero, add_assoc, zero-add, arith}
use native.Mathlib.Nat.{zero-mod, mod-add-mod}
use Rattle.std.proofs.lemmas.List.FromFn.{length-map-range_with_len, get_or-map-range_with_len, fill_by_all}
use Rattle.std.specs.List.{range_with_len}
use Rattle.std.proofs.lemmas.List.{get_or-take, append-nil, take_at, length-append, get_or_append_left, get_or-append_right}
use Rattle.std.proofs.lemmas.List.Sums.{sum_by_push}
use Rattle.std.proofs.lemmas.Bool.{cases_lt}
use Rattle.std.proofs.lemmas.Nat.{mod_below}
use Rattle.block.specs.Refusals.{first_refusal}
use Rattle.sender.specs.declared.passages.PassageRefusal.{PassageRefusal}
use Rattle.sender.specs.Passages.{Guard, round_of, sent, copy_checks, Copies}
use Rattle.sender.specs.Sendings.{CopiesInTurn, none, next, OwnBuffer, Sending, made, confirmed, given_up, leaked, written, asked_of, asked_each, SendsInRounds}

-- what is sent from octet a on, and then from behind that on
sent_add : (buffer : List ℕ) (octets a m n : ℕ) → sent buffer octets a m ++ sent buffer octets (a + m) n ≡ sent buffer octets a (m + n)
sent_add buffer octets a m n =
    let at : ℕ → ℕ = λ k. get_or buffer ((a + k) % octets) 0 in
    fill_by_all at _ (m + n) 0 (simp (length-append, length-map-range_with_len))
    (λ k h. elim (cases_lt k m) [
      | inl l ↦ get_or_append_left (sent buffer octets a m) _ 0 k (simp length-map-range_with_len l) ∙ get_or-map-range_with_len at 0 m k k 0 l (zero-add k)
      | inr r ↦
          get_or-append_right _ _ m k 0 (length-map-range_with_len _ 0 m) r
          ∙ get_or-map-range_with_len _ 0 n (k - m) (k - m) 0 (omega arith) (zero-add _)
          ∙ ap (λ p. get_or buffer (p % octets) 0) (omega arith)
    ])

-- whole rounds before the first octet do not matter
sent_mod : (buffer : List ℕ) (octets a n : ℕ) → sent buffer octets (a % octets) n ≡ sent buffer octets a n
sent_mod buffer octets a n = simp mod-add-mod

-- what is sent depends on the octets of a round alone
sent_front : (handed buffer : List ℕ) (round start n : ℕ) → 1 ≤ round → take round handed ≡ take round buffer → sent handed round start n ≡ sent buffer round start n
sent_front handed buffer round start n some same =
    let at : (i : ℕ) → get_or handed ((start + i) % round) 0 ≡ get_or buffer ((start + i) % round) 0 =
    λ i. let within = mod_below (start + i) round some in
    sym (get_or-take round handed ((start + i) % round) 0 within) ∙ ap (λ xs. get_or xs ((start + i) % round) 0) same ∙ get_or-take round buffer ((start + i) % round) 0 within in
    λ j. map (λ i. at i j) (range_with_len 0 n)

-- a copy that no check refuses is of a round that has octets
some_round : (round given room count : ℕ) → first_refusal (copy_checks round given room count) ≡ None → 1 ≤ round
some_round round given room count e = search rules

-- copies that begin where a octets end
record Followed (buffer : List ℕ) (g h : Guard) (a : ℕ) (wrote : List ℕ) (asked : ℕ) : Type 0 where
  wrote_is : wrote ≡ sent buffer g.round a asked
  standing_is : h.standing ≡ (a + asked) % g.round
  round_is : h.round ≡ g.round

-- one copy more, performed or refused
step : (buffer : List ℕ) (g h h' : Guard) (a : ℕ) (wrote : List ℕ) (asked : ℕ) (handed target target' : List ℕ) (count : ℕ) (r : Result Unit PassageRefusal)
    → Followed buffer g h a wrote asked → Copies handed target target' count h h' r → OwnBuffer h.round r handed buffer
    → Followed buffer g h' a (wrote ++ written r count target') (asked + asked_of r count)
step buffer g h h' a wrote asked handed target target' count (Ok x) f d own =
    let round = g.round in
    let front = take_at (sent handed h.round h.standing count) (drop count target) count (length-map-range_with_len _ 0 count) in
    let same = sent_front handed buffer h.round h.standing count (some_round h.round (length handed) (length target) count d.0) own in
    let placed = sent_mod buffer round (a + asked) count in
    let more = sent_add buffer round a asked count in
    let turn = mod-add-mod (a + asked) round count in
    let behind = add_assoc a asked count in
    record {
      wrote_is = cc;
      standing_is = cc;
      round_is = cc;
    }
step buffer g h h' a wrote asked handed target target' count (Err e) f d own =
    let same = add-zero asked in
    record {
      wrote_is = cc (append-nil wrote);
      standing_is = cc;
      round_is = cc;
    }

-- copies leave the sender's cursor, and a passage remembers where it began
stays : {buffer : List ℕ} {g h : Guard} {wrote : List ℕ} {asked : ℕ} → CopiesInTurn buffer g h wrote asked → (h.cursor ≡ g.cursor) × (h.before ≡ g.before)
stays none = (refl, refl)
stays (next c handed target target' count h' (Ok x) d own) = let s = stays c in (ap (λ k. k.cursor) d.1.1 ∙ s.0, ap (λ k. k.before) d.1.1 ∙ s.1)
stays (next c handed target target' count h' (Err e) d own) = let s = stays c in (ap (λ k. k.cursor) d.2.1 ∙ s.0, ap (λ k. k.before) d.2.1 ∙ s.1)

-- so it is after any copies on a passage
followed : (buffer : List ℕ) (g h : Guard) (a : ℕ) (wrote : List ℕ) (asked : ℕ) → CopiesInTurn buffer g h wrote asked → g.standing ≡ a % g.round → Followed buffer g h a wrote asked
followed buffer g _ a _ _ none e =
    record {
      wrote_is = refl;
      standing_is = cc (e, add-zero a);
      round_is = refl;
    }
followed buffer g _ a _ _ (next {h} {wrote} {asked} c handed target target' count h' r d own) e =
    step buffer g h h' a wrote asked handed target target' count r (followed buffer g h a wrote asked c e) d own

-- what a sending keeps up
record Kept (octets check : ℕ) (buffer : List ℕ) (cursor : ℕ) (kept : List ℕ) (asked : ℕ) : Type 0 where
  kept_is : kept ≡ sent buffer (round_of octets check) 0 asked
  stands : cursor ≡ asked % round_of octets check

-- so it is after every step of a sending
upheld : (octets check : ℕ) (buffer : List ℕ) (cursor : ℕ) (kept : List ℕ) (asked : ℕ) → Sending octets check buffer cursor kept asked → Kept octets check buffer cursor kept asked
upheld octets check buffer _ _ _ (made s d) = record { kept_is = refl; stands = d.1.2 ∙ sym (zero-mod (round_of octets check)) }
upheld octets check buffer _ _ _ (confirmed {cursor} {kept} {wrote} {asked} {more} {h} sending p cursor' d) =
    let k = upheld octets check buffer cursor kept asked sending in
    let b = p.begun in
    let f = followed buffer p.g h asked wrote more p.copied (cc (k.stands, b)) in
    let joined = sent_add buffer (round_of octets check) 0 asked more in
    let from_here = zero-add asked in
    record { kept_is = cc; stands = cc }
upheld octets check buffer _ _ _ (given_up {cursor} {kept} {wrote} {asked} {more} {h} sending p cursor' d) =
    let k = upheld octets check buffer cursor kept asked sending in
    let b = p.begun in
    record { kept_is = k.kept_is; stands = let s = stays p.copied in cc (s.1) }
upheld octets check buffer _ _ _ (leaked {cursor} {kept} {wrote} {asked} {more} {h} sending p cursor' d) =
    let k = upheld octets check buffer cursor kept asked sending in
    let b = p.begun in
    record { kept_is = k.kept_is; stands = let s = stays p.copied in cc (s.0) }

-- the confirmed octets as one list
pub sending_sent : (octets check : ℕ) (buffer : List ℕ) (cursor : ℕ) (kept : List ℕ) (asked : ℕ) → Sending octets check buffer cursor kept asked → kept ≡ sent buffer (round_of octets check) 0 asked
sending_sent octets check buffer cursor kept asked sending = (upheld octets check buffer cursor kept asked sending).kept_is

pub sends_in_rounds : SendsInRounds
sends_in_rounds octets check buffer cursor kept asked sending =
    let octets' = round_of octets check in
    let k = upheld octets check buffer cursor kept asked sending in
    let many : length kept ≡ asked = ap length k.kept_is ∙ length-map-range_with_len _ 0 asked in
    record {
      many = many;
      rounds = λ j h.
          ap (λ xs. get_or xs j 0) k.kept_is
          ∙ get_or-map-range_with_len (λ i. get_or buffer ((0 + i) % octets') 0) 0 asked j j 0 (subst (λ n. j < n) many h) (zero-add j)
          ∙ ap (λ n. get_or buffer (n % octets') 0) (zero-add j);
      stands = k.stands;
    }

-- what its confirmed passages were asked for in all
pub asked_sum : {octets check : ℕ} {buffer : List ℕ} {cursor : ℕ} {kept : List ℕ} {asked : ℕ} → (sending : Sending octets check buffer cursor kept asked) → asked ≡ sum (asked_each sending)
asked_sum (made s m) = refl
asked_sum (confirmed {more} sending p cursor' c) = ap (λ n. n + more) (asked_sum sending) ∙ sym (sum_by_push (λ n. n) (asked_each sending) more)
asked_sum (given_up sending p cursor' g) = asked_sum sending
asked_sum (leaked sending p cursor' l) = asked_sum sending
