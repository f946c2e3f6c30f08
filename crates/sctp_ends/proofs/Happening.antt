-- The run of two endpoints, by computation.
use Rattle.std.proofs.Common.{◌≡◌, ◌<◌, ◌≤◌, ℕ, zero, suc, ◌+◌, arith, Bool, true, false, List, [], ◌∷◌, Option, Some, None, length, refl, ap, sym, ◌∙◌, subst}
use Rattle.std.specs.Prelude.{nat_lt, slice_get, slice_index_or, if◌then◌else◌}
use Rattle.std.proofs.lemmas.Grind.{common_steps}
use Rattle.std.proofs.lemmas.Bool.Decides.{nat_tests}
use Rattle.std.proofs.lemmas.List.Elements.{Contains-get_or}
use Rattle.sctp_cookie.specs.declared.cookie.Cookie.{Cookie}
use Rattle.sctp_receiving.specs.Receiver.{drained}
use Rattle.sctp_receiving.specs.Sack.{run_from, blocks_from}
use Rattle.sctp_sending.specs.Outgoing.{lost_from}
use Rattle.sctp_sending.specs.Sending.{named_below, passed_below, given, next_place, gone_again, gone_first, confirmation}
use Rattle.sctp_sending.specs.Sending.{confirmed, settled, acknowledged, after_t3}
use Rattle.sctp_rules.specs.Settings.{Beginning}
use Rattle.sctp_rules.specs.Confirming.{going}
use Rattle.sctp_rules.specs.Endpoint.{Opens, Came, Sends, Flushes, after}
use Rattle.sctp_rules.specs.Rows.{address, fields, cookie_of}
use Rattle.sctp_moves.specs.Numbers.{modulus}
use Rattle.sctp_moves.specs.Ends.{Message}
use Rattle.sctp_ends.specs.Shown.{AreGood}
use Rattle.sctp_ends.specs.Worlds.{Emitted, Site, messages_at, Arrives, at_near, at_far}
use Rattle.sctp_ends.specs.Example as run
use Rattle.sctp_ends.specs.Example.{fitting, make_from, packet_at, no_packet, Happens, given_twice_told_thrice}

pub arrives : (s : Site) (place many messages : ℕ) → length s.packets ≡ many → place < many → messages_at s ≡ messages → messages ≤ 1000 →
    Arrives s (packet_at s place)
arrives s place many messages l p m few =
    let one : Emitted = slice_index_or s.packets place no_packet in
    record {
      one = one;
      there = Contains-get_or s.packets place no_packet (omega (arith, l, p));
      is = refl;
      young = omega (arith, m, few);
    }

some-is : {A : Type 0} (x y : A) → Some x ≡ Some y → x ≡ y
some-is x y e = cc

fits : (o : Option Cookie) (opened : Cookie) → fitting o ≡ Some opened → opened.own_first_tsn < modulus
fits None opened e = absurd (cc)
fits (Some cookie) opened e = by (nat_lt cookie.own_first_tsn modulus) refl e where
  by : (b : Bool) → nat_lt cookie.own_first_tsn modulus ≡ b → (if b then Some cookie else None) ≡ Some opened → opened.own_first_tsn < modulus
  by true q e =
      let below : cookie.own_first_tsn < modulus = grind (arith, nat_tests, q) in
      subst (λ (c : Cookie). c.own_first_tsn < modulus) (some-is cookie opened e) below
  by false q e = absurd (cc)

opens : (o : Option Cookie) (signed opened : Cookie) → o ≡ Some signed → fitting o ≡ Some opened → opened ≡ signed
opens None signed opened q e = absurd (cc)
opens (Some cookie) signed opened q e = by (nat_lt cookie.own_first_tsn modulus) e where
  by : (b : Bool) → (if b then Some cookie else None) ≡ Some opened → opened ≡ signed
  by true e = sym (some-is cookie opened e) ∙ some-is cookie signed q
  by false e = absurd (cc)

pub good : (number : ℕ) → AreGood (make_from number).secrets
good number = record {
  fresh = λ i j a b p q same.
      let x : number + i ≡ number + j =
      ap (λ (c : Beginning). c.tag) (some-is _ a p) ∙ same ∙ sym (ap (λ (c : Beginning). c.tag) (some-is _ b q)) in
      omega (arith, x);
  opens = λ signed opened e. opens (cookie_of (fields signed)) signed opened refl e;
  beginnings_fit = λ i a p. let x : 100 ≡ a.first = ap (λ (c : Beginning). c.first) (some-is _ a p) in omega (arith, x);
  cookies_fit = λ octets opened e. fits (cookie_of octets) opened e;
}

pub happens : Happens
unfolding after going drained run_from blocks_from lost_from named_below passed_below given next_place gone_again gone_first confirmation confirmed settled acknowledged after_t3
happens = record {
  near_good = good 1000;
  far_good = good 2000;
  steps = (
    at_far (Opens 10 false) tt refl,
    (
      at_near (Opens 10 true) tt refl,
      (
        at_far (Came 10 address (packet_at run.tried.near 0)) (arrives run.tried.near 0 1 0 refl (omega arith) refl (omega arith)) refl,
        (
          at_near (Came 10 address (packet_at run.answered.far 0)) (arrives run.answered.far 0 1 0 refl (omega arith) refl (omega arith)) refl,
          (
            at_far (Came 10 address (packet_at run.echoed.near 0)) (arrives run.echoed.near 0 2 0 refl (omega arith) refl (omega arith)) refl,
            (
              at_far (Flushes 10) tt refl,
              (
                at_near (Came 10 address (packet_at run.confirmed.far 0)) (arrives run.confirmed.far 0 2 0 refl (omega arith) refl (omega arith)) refl,
                (
                  at_near (Sends run.first_message) tt refl,
                  (
                    at_near (Flushes 10) tt refl,
                    (
                      at_near (Sends run.second_message) tt refl,
                      (
                        at_near (Flushes 10) tt refl,
                        (
                          at_far (Came 10 address (packet_at run.gone_second.near 0)) (arrives run.gone_second.near 0 4 2 refl (omega arith) refl (omega arith)) refl,
                          (
                            at_far (Came 10 address (packet_at run.overtaken.near 1)) (arrives run.overtaken.near 1 4 2 refl (omega arith) refl (omega arith)) refl,
                            (
                              at_far (Came 10 address (packet_at run.told_both.near 1)) (arrives run.told_both.near 1 4 2 refl (omega arith) refl (omega arith)) refl,
                              tt,
                            ),
                          ),
                        ),
                      ),
                    ),
                  ),
                ),
              ),
            ),
          ),
        ),
      ),
    ),
  );
  given = refl;
  nothing_yet = refl;
  told = refl;
}

-- ---- the statement isn't too weak

one-long : (m : Message) → 0 < length (m ∷ [])
one-long m = grind (arith, common_steps)

beyond : (m : Message) (n : ℕ) (whole : List Message) → slice_get ((m ∷ []) ∷ (m ∷ []) ∷ []) n ≡ Some whole → 2 ≤ n → ⊥
beyond m zero whole e l = omega (arith, l)
beyond m (suc zero) whole e l = omega (arith, l)
beyond m (suc (suc n)) whole e l = absurd (grind (arith, common_steps))

pub told-thrice : given_twice_told_thrice
told-thrice m d =
    let a : d.matched 0 < d.matched 1 = d.order 0 1 (m ∷ []) (m ∷ []) refl refl (one-long m) (one-long m) (omega arith) in
    let b : d.matched 1 < d.matched 2 = d.order 1 2 (m ∷ []) (m ∷ []) refl refl (one-long m) (one-long m) (omega arith) in
    let g = d.each 2 (m ∷ []) refl (one-long m) in
    beyond m (d.matched 2) g.whole g.is (omega (arith, a, b))
