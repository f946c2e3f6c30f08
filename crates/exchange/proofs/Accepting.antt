-- A wrong number in User Data only fails the link.
use Rattle.exchange.proofs.Basics.{◌≡◌, ◌∙◌, ℕ, Bool, List, [], Option, Some, None, Result, Err, is_some, refl, ap, sym, slice_set, option_map, set-get_or, Message, lent, Handled, dropped, SeqFault, count_confirmed, Counts, kept_first, kept_after_answer, State, with_node, Ends, fail, handle, handle_by, KeptQueues, kept, lane_of, counts_at, carrying}
use Rattle.signalling_types.specs.declared.notice.FailureReason.TheVariants as reasons
use Rattle.exchange.specs.declared.exchange.frames.UserData.{UserData}

-- queues, after numbers that were answered so
answered : KeptQueues → ℕ → Bool → Result ℕ SeqFault → KeptQueues
answered k link carries r = record {
  lanes = dropped k.lanes (lane_of link) (count_confirmed r);
  counts = slice_set k.counts link (kept_after_answer (counts_at k.counts link) carries r);
}

fault_leaves : (k : KeptQueues) (link fsn bsn : ℕ) (carries : Bool) (fault : SeqFault) → kept.accept_answer k link fsn bsn carries ≡ Err fault
    → kept.accepted k link fsn bsn carries ≡ k
unfolding answered
fault_leaves k link fsn bsn carries fault e =
    ap (answered k link carries) e
    ∙ ap (λ (lanes : List (List Message)). record { lanes = lanes; counts = slice_set k.counts link (counts_at k.counts link) }) (set-get_or k.lanes (lane_of link) [])
    ∙ ap (λ (counts : List Counts). record { lanes = k.lanes; counts = counts }) (set-get_or k.counts link kept_first)

some_lent : (m : Option _) → is_some m ≡ is_some (option_map lent m)
some_lent (Some m) = refl
some_lent None = refl

pub wrong_number : (s next last : State KeptQueues) (link : ℕ) (d : UserData) (carries : Bool) (r : Result ℕ SeqFault) (fault : SeqFault)
    → carries ≡ is_some d.message → r ≡ kept.accept_answer s.node.queues link d.fsn d.bsn carries → r ≡ Err fault
    → next ≡ with_node s (record s.node { queues = kept.accepted s.node.queues link d.fsn d.bsn carries })
    → last ≡ with_node next (fail kept next.settings link reasons.Sequence next.node)
    → Ends s Handled last (handle kept s.settings link (carrying d) s.node)
wrong_number s next last link d carries r fault carried is wrong accepted failed =
    let answer : kept.accept_answer s.node.queues link d.fsn d.bsn carries ≡ Err fault = sym is ∙ wrong in
    let there : Err fault ≡ kept.accept_answer s.node.queues link d.fsn d.bsn (is_some (option_map lent d.message)) =
    sym answer ∙ ap (kept.accept_answer s.node.queues link d.fsn d.bsn) (carried ∙ some_lent d.message) in
    let same : next ≡ s =
    accepted ∙ ap (λ (k : KeptQueues). with_node s (record s.node { queues = k })) (fault_leaves s.node.queues link d.fsn d.bsn carries fault answer) in (
      ap (λ (x : Result ℕ SeqFault). (handle_by kept s.settings x link (carrying d) s.node).outcome) there,
      failed
          ∙ ap (λ (x : State KeptQueues). with_node x (fail kept x.settings link reasons.Sequence x.node)) same
          ∙ ap (λ (x : Result ℕ SeqFault). with_node s (handle_by kept s.settings x link (carrying d) s.node).left) there,
    )
