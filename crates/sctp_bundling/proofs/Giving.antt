-- What a watch is given, by one call after another.
use Rattle.std.proofs.Common.{◌≡◌, ℕ, List, [], ◌∷◌, ◌++◌, map, sym, ap, subst, ◌∙◌}
use Rattle.std.proofs.lemmas.List.{append_assoc, append-nil, map-append}
use Rattle.sctp_rules.specs.State.{Told, State, Done, Datagram, silent, behind}
use Rattle.sctp_bundling.specs.ChunkRows.{packet_text}
use Rattle.sctp_bundling.specs.Watching.{Sent, sent_as, Puts, Gives}

sent-behind : (sent : List Sent) (xs ys : List Datagram) → (sent ++ map sent_as xs) ++ map sent_as ys ≡ sent ++ map sent_as (xs ++ ys)
sent-behind sent xs ys = append_assoc sent (map sent_as xs) (map sent_as ys) ∙ ap (λ (zs : List Sent). sent ++ zs) (sym (map-append sent_as xs ys))

-- a watch that datagrams were given to, and then others
pub puts-then : {W : Type 0} (has : W → List Sent → List Told → Type 0) (w v u : W) (xs ys : List Datagram) → Puts has w v xs → Puts has v u ys → Puts has w u (xs ++ ys)
puts-then has w v u xs ys g h = record {
  more = λ sent told is.
      subst (λ (zs : List Sent). has u zs told) (sent-behind sent xs ys) (h.more (sent ++ map sent_as xs) told (g.more sent told is));
}

pub puts-none : {W : Type 0} (has : W → List Sent → List Told → Type 0) (w : W) → Puts has w w []
puts-none has w = record { more = λ sent told is. subst (λ (xs : List Sent). has w xs told) (sym (append-nil sent)) is }

-- a watch that octets were given to
pub put-one : {W : Type 0} (has : W → List Sent → List Told → Type 0) (w v : W) (octets : List ℕ) (d : Datagram)
    → ((sent : List Sent) (told : List Told) → has w sent told → has v (sent ++ record { octets = octets; to = d.to } ∷ []) told)
    → octets ≡ packet_text d.packet → Puts has w v (d ∷ [])
put-one has w v octets d g e = record {
  more = λ sent told is. subst (λ (t : List ℕ). has v (sent ++ record { octets = t; to = d.to } ∷ []) told) e (g sent told is);
}

-- a watch that one rule gave to, and then another
pub given-behind : {W : Type 0} (has : W → List Sent → List Told → Type 0) (w v u : W) (first second : Done)
    → Gives has w v first → Gives has v u second → Gives has w u (behind first second)
given-behind has w v u first second g h = record {
  more = λ sent told is.
      subst (λ (xs : List Sent). has u xs (told ++ (first.told ++ second.told))) (sent-behind sent first.sent second.sent)
      (subst (λ (xs : List Told). has u ((sent ++ map sent_as first.sent) ++ map sent_as second.sent) xs) (append_assoc told first.told second.told)
      (h.more (sent ++ map sent_as first.sent) (told ++ first.told) (g.more sent told is)));
}

-- a watch that nothing was given to
pub given-none : {W : Type 0} (has : W → List Sent → List Told → Type 0) (w : W) (s : State) → Gives has w w (silent s)
given-none has w s = record {
  more = λ sent told is.
      subst (λ (xs : List Sent). has w xs (told ++ [])) (sym (append-nil sent)) (subst (λ (xs : List Told). has w sent xs) (sym (append-nil told)) is);
}

-- a watch that datagrams alone were given to
pub given-put : {W : Type 0} (has : W → List Sent → List Told → Type 0) (w v : W) (d : Done) → d.told ≡ [] → Puts has w v d.sent → Gives has w v d
given-put has w v d none p = record {
  more = λ sent told is.
      subst (λ (xs : List Told). has v (sent ++ map sent_as d.sent) xs) (sym (append-nil told) ∙ ap (λ (xs : List Told). told ++ xs) (sym none)) (p.more sent told is);
}
