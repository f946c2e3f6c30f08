-- What is kept of an endpoint after a call.
use Rattle.std.proofs.Common.{◌≡◌, ◌≤◌, ℕ, zero, suc, ◌+◌, ◌<◌, Bool, true, false, List, [], ◌∷◌, ◌++◌, map, refl, sym, ap, ◌∙◌, arith, length, drop}
use Rattle.std.specs.Prelude.{if◌then◌else◌, ◌&&◌, reverse}
use Rattle.std.proofs.lemmas.List.{append-nil, reverse-append}
use Rattle.sctp_rules.specs.State.{Told, Up, Heard, Down, Failed, Done}
use Rattle.sctp_moves.specs.Ends.{Message}
use Rattle.sctp_sending.specs.Outgoing as outgoing
use Rattle.sctp_rules.specs.Sending.{may_send, send}
use Rattle.sctp_rules.specs.Endpoint.{Sends, after}
use Rattle.sctp_ends.specs.Told.{opened_by, with_last, text_given}
use Rattle.sctp_bundling.specs.Watching.{Sent, sent_as, Gives}
use Rattle.sctp_endpoint.specs.Endpoints.{Endpoint, Does}
use Rattle.sctp_world.specs.Kept.{KeptLog, HasAll, KeptSite, Keeps, kept_happened, with_done, is_up_at}

drop-whole : {A : Type 0} → (xs ys : List A) → drop (length xs) (xs ++ ys) ≡ ys
drop-whole [] ys = refl
drop-whole (x ∷ xs) ys = drop-whole xs ys

-- a log that may be whole after a call has all that was given to it, and was whole before
whole-told : {was new : KeptLog} {d : Done} → (more : List Told) → was.is_whole ≡ false → Gives HasAll was new d → new.is_whole ≡ true → new.told ≡ more ++ d.told
whole-told {was = was} more lost g w =
    let all = g.more [] more (record { sent_is = λ k. absurd (cc (k, lost)); told_is = λ k. absurd (cc (k, lost)) }) in
    all.told_is w

was-whole-by : (b : Bool) (was new : KeptLog) (d : Done) → was.is_whole ≡ b → Gives HasAll was new d → new.is_whole ≡ true → b ≡ true
was-whole-by true was new d is g w = refl
was-whole-by false was new d is g w =
    absurd (omega (arith, ap length (sym (whole-told [] is g w) ∙ whole-told (Up ∷ []) is g w)))

was-whole : (was new : KeptLog) (d : Done) → Gives HasAll was new d → new.is_whole ≡ true → was.is_whole ≡ true
was-whole was new d g w = was-whole-by was.is_whole was new d refl g w

log-so : (was new : KeptLog) (d : Done) → Gives HasAll was new d → new.is_whole ≡ true →
    new ≡ record was { sent = was.sent ++ map sent_as d.sent; told = was.told ++ d.told }
log-so was new d g w =
    let all = g.more was.sent was.told (record { sent_is = λ k. refl; told_is = λ k. refl }) in
    ap (λ (x : List Sent). record { sent = x; told = new.told; is_whole = new.is_whole }) (all.sent_is w)
    ∙ ap (λ (x : List Told). record { sent = was.sent ++ map sent_as d.sent; told = x; is_whole = new.is_whole }) (all.told_is w)
    ∙ ap (λ (b : Bool). record { sent = was.sent ++ map sent_as d.sent; told = was.told ++ d.told; is_whole = b }) (w ∙ sym (was-whole was new d g w))

-- a call, and the lists that are begun after it
site-so : (d : Done) (was : KeptSite) (log : KeptLog) (e : Endpoint) → Does HasAll was.log log was.endpoint e d → log.is_whole ≡ true →
    record { endpoint = e; log = log; given = opened_by was.given (drop (length was.log.told) log.told) } ≡ with_done d was.given was
site-so d was log e h w =
    let all : KeptLog = record was.log { sent = was.log.sent ++ map sent_as d.sent; told = was.log.told ++ d.told } in
    ap (λ (x : Endpoint). record { endpoint = x; log = log; given = opened_by was.given (drop (length was.log.told) log.told) }) h.left_is
    ∙ ap (λ (x : KeptLog). record { endpoint = record was.endpoint { state = d.left }; log = x; given = opened_by was.given (drop (length was.log.told) x.told) }) (log-so was.log log d h.gives w)
    ∙ ap (λ (x : List Told). record { endpoint = record was.endpoint { state = d.left }; log = all; given = opened_by was.given x }) (drop-whole was.log.told d.told)

-- the same, of what is known after a call
pub settled : (d : KeptSite → Done) (was inside new : KeptSite) (log : KeptLog) (e : Endpoint) (from : ℕ) → inside ≡ was →
    Keeps (record { endpoint = e; log = log; given = inside.given }) (record { endpoint = e; log = log; given = opened_by inside.given (drop from log.told) }) new →
    from ≡ length inside.log.told → Does HasAll inside.log log inside.endpoint e (d inside) → Keeps was (with_done (d was) was.given was) new
settled d was inside new log e from same k start h = record {
  endpoint_is = k.endpoint_is ∙ h.left_is ∙ ap (λ (x : KeptSite). record x.endpoint { state = (d x).left }) same;
  was_whole = λ w. ap (λ (x : KeptSite). x.log.is_whole) (sym same) ∙ was-whole inside.log log (d inside) h.gives (k.was_whole w);
  all_is = λ w.
      k.all_is w ∙ ap (λ (n : ℕ). record { endpoint = e; log = log; given = opened_by inside.given (drop n log.told) }) start
      ∙ site-so (d inside) inside log e h (k.was_whole w) ∙ ap (λ (x : KeptSite). with_done (d x) x.given x) same;
}

-- what is kept is the same in other words
pub keeps-so : (was mid one two new : KeptSite) → Keeps mid one new → one ≡ two → mid.log.is_whole ≡ was.log.is_whole → Keeps was two new
keeps-so was mid one two new k same whole = record {
  endpoint_is = k.endpoint_is ∙ ap (λ (x : KeptSite). x.endpoint) same;
  was_whole = λ w. sym whole ∙ k.was_whole w;
  all_is = λ w. k.all_is w ∙ same;
}

pub keeps-all : (was : KeptSite) → Keeps was was was
keeps-all was = record { endpoint_is = refl; was_whole = λ w. w; all_is = λ w. refl }

if-is : {A : Type 0} → (b d : Bool) (x y : A) → d ≡ b → (if b then x else y) ≡ (if d then x else y)
if-is b d x y e = ap (λ (z : Bool). if z then x else y) (sym e)

-- a message is sent
pub sent-so : (b : Bool) (m : outgoing.Message) (was : KeptSite) (e : Endpoint) (given : List (List Message)) → may_send m was.endpoint.state ≡ b →
    e ≡ record was.endpoint { state = send m was.endpoint.state } → given ≡ (if b then with_last (text_given m) was.given else was.given) →
    record { endpoint = e; log = was.log; given = given } ≡ kept_happened (Sends m) was
unfolding after
sent-so b m was e given taken is lists =
    let log : KeptLog = record was.log { sent = was.log.sent ++ []; told = was.log.told ++ [] } in
    let left : Endpoint = record was.endpoint { state = send m was.endpoint.state } in
    ap (λ (x : Endpoint). record { endpoint = x; log = was.log; given = given }) is
    ∙ ap (λ (x : List Sent). record { endpoint = left; log = record was.log { sent = x }; given = given }) (sym (append-nil was.log.sent))
    ∙ ap (λ (x : List Told). record { endpoint = left; log = record was.log { sent = was.log.sent ++ []; told = x }; given = given }) (sym (append-nil was.log.told))
    ∙ ap (λ (x : List (List Message)). record { endpoint = left; log = log; given = x })
    (lists ∙ if-is b (may_send m was.endpoint.state) (with_last (text_given m) was.given) was.given taken)

-- an end whose world is whole
both-first : (a b : Bool) → (a && b) ≡ true → a ≡ true
both-first true b e = refl
both-first false b e = e

both-second : (a b : Bool) → (a && b) ≡ true → b ≡ true
both-second true b e = e
both-second false b e = absurd (cc)

pub near-kept : (was should near far : KeptSite) → Keeps was should near → (near.log.is_whole && far.log.is_whole) ≡ true → near ≡ should
near-kept was should near far k w = k.all_is (both-first near.log.is_whole far.log.is_whole w)

pub far-kept : (was should far near : KeptSite) → Keeps was should far → (near.log.is_whole && far.log.is_whole) ≡ true → far ≡ should
far-kept was should far near k w = k.all_is (both-second near.log.is_whole far.log.is_whole w)

-- ---- the lists that are begun

one-told : (t : Told) (more : List Told) (lists : List (List Message)) →
    opened_by lists (t ∷ more) ≡ opened_by (if is_up_at (t ∷ more) 0 then [] ∷ lists else lists) more
one-told Up more lists = refl
one-told (Heard m) more lists = refl
one-told (Down why) more lists = refl
one-told (Failed why) more lists = refl

one-opened : (told : List Told) (i : ℕ) (lists : List (List Message)) → i < length told →
    opened_by lists (drop i told) ≡ opened_by (if is_up_at told i then [] ∷ lists else lists) (drop (i + 1) told)
one-opened [] i lists l = absurd (omega (arith, l))
one-opened (t ∷ told) zero lists l = one-told t told lists
one-opened (t ∷ told) (suc i) lists l =
    let e : suc i + 1 ≡ suc (i + 1) = omega arith in
    one-opened told i lists (omega (arith, l))
    ∙ sym (ap (λ (k : ℕ). opened_by (if is_up_at told i then [] ∷ lists else lists) (drop k (t ∷ told))) e)

none-left : (told : List Told) (i : ℕ) (lists : List (List Message)) → length told ≤ i → opened_by lists (drop i told) ≡ lists
none-left [] zero lists l = refl
none-left [] (suc i) lists l = refl
none-left (t ∷ told) zero lists l = absurd (omega (arith, l))
none-left (t ∷ told) (suc i) lists l = none-left told i lists (omega (arith, l))

-- ---- the latest list

pub last-of : (lists : List (List Message)) (last : List Message) → reverse (lists ++ last ∷ []) ≡ last ∷ reverse lists
last-of lists last = reverse-append lists (last ∷ [])

list-step : (told : List Told) (i from : ℕ) (before : List (List Message)) (lists next : List (List Message)) → i < length told →
    next ≡ (if is_up_at told i then [] ∷ lists else lists) → opened_by lists (drop i told) ≡ opened_by before (drop from told) →
    opened_by next (drop (i + 1) told) ≡ opened_by before (drop from told)
list-step told i from before lists next l e h =
    ap (λ (ls : List (List Message)). opened_by ls (drop (i + 1) told)) e ∙ sym (one-opened told i lists l) ∙ h

abbrev IsOn : KeptSite → KeptSite → (i from : ℕ) → Type 0
IsOn was self i from =
    (self ≡ record was { given = self.given }) × (opened_by self.given (drop i was.log.told) ≡ opened_by was.given (drop from was.log.told))

loop-step : (b : Bool) (was self next : KeptSite) (i from : ℕ) → b ≡ is_up_at self.log.told i → i < length was.log.told → IsOn was self i from →
    next ≡ (if b then record self { given = [] ∷ self.given } else self) → IsOn was next (i + 1) from
loop-step true was self next i from e l h n =
    let told : List Told = was.log.told in
    let up : true ≡ is_up_at told i = e ∙ ap (λ (k : KeptSite). is_up_at k.log.told i) h.0 in
    let lists : next.given ≡ (if is_up_at told i then [] ∷ self.given else self.given) =
    ap (λ (k : KeptSite). k.given) n ∙ ap (λ (b : Bool). if b then [] ∷ self.given else self.given) up in
    let same : record self { given = [] ∷ self.given } ≡ record was { given = [] ∷ self.given } =
    ap (λ (k : KeptSite). record k { given = [] ∷ self.given }) h.0 in (
      n ∙ same ∙ ap (λ (x : KeptSite). record was { given = x.given }) (sym n),
      list-step told i from was.given self.given next.given l lists h.1,
    )
loop-step false was self next i from e l h n =
    let told : List Told = was.log.told in
    let up : false ≡ is_up_at told i = e ∙ ap (λ (k : KeptSite). is_up_at k.log.told i) h.0 in
    let lists : next.given ≡ (if is_up_at told i then [] ∷ self.given else self.given) =
    ap (λ (k : KeptSite). k.given) n ∙ ap (λ (b : Bool). if b then [] ∷ self.given else self.given) up in (
      n ∙ h.0 ∙ ap (λ (x : KeptSite). record was { given = x.given }) (sym n),
      list-step told i from was.given self.given next.given l lists h.1,
    )

-- the lists of some places are begun, unless memory ran out
pub record Begun (was self : KeptSite) (i from : ℕ) : Type 0 where
  pub endpoint_is : self.endpoint ≡ was.endpoint
  pub was_whole : self.log.is_whole ≡ true → was.log.is_whole ≡ true
  pub on : self.log.is_whole ≡ true
      → (self ≡ record was { given = self.given }) × (opened_by self.given (drop i was.log.told) ≡ opened_by was.given (drop from was.log.told))

pub begun-first : (was : KeptSite) (from : ℕ) → Begun was was from from
begun-first was from = record { endpoint_is = refl; was_whole = λ w. w; on = λ w. (refl, refl) }

pub begun-more : (was self next : KeptSite) (i from : ℕ) → true ≡ is_up_at self.log.told i → i < length was.log.told → Begun was self i from →
    Keeps self (record self { given = [] ∷ self.given }) next → Begun was next (i + 1) from
begun-more was self next i from e l h k = record {
  endpoint_is = k.endpoint_is ∙ h.endpoint_is;
  was_whole = λ w. h.was_whole (k.was_whole w);
  on = λ w. loop-step true was self next i from e l (h.on (k.was_whole w)) (k.all_is w);
}

pub begun-same : (was self next : KeptSite) (i from : ℕ) → false ≡ is_up_at self.log.told i → i < length was.log.told → Begun was self i from →
    next ≡ self → Begun was next (i + 1) from
begun-same was self next i from e l h n =
    let whole = ap (λ (k : KeptSite). k.log.is_whole) n in
    record {
      endpoint_is = ap (λ (k : KeptSite). k.endpoint) n ∙ h.endpoint_is;
      was_whole = λ w. h.was_whole (sym whole ∙ w);
      on = λ w. loop-step false was self next i from e l (h.on (sym whole ∙ w)) n;
    }

pub begun-all : (was self : KeptSite) (i from : ℕ) → length was.log.told ≤ i → Begun was self i from →
    Keeps was (record was { given = opened_by was.given (drop from was.log.told) }) self
begun-all was self i from l h = record {
  endpoint_is = h.endpoint_is;
  was_whole = h.was_whole;
  all_is = λ w.
      let on = h.on w in
      on.0 ∙ ap (λ (x : List (List Message)). record was { given = x }) (sym (none-left was.log.told i self.given l) ∙ on.1);
}
