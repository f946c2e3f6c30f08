-- What rules do that no changeover ends by and no frame: messages go behind those that stand in queues.
use Rattle.exchange_rules.proofs.Basics.{◌≡◌, ◌<◌, ◌≤◌, ◌^◌, ℕ, Bool, true, List, [], ◌∷◌, ◌++◌, length, refl, ap, sym, subst, ◌∙◌, arith, slice_set, ⊎_elim, cases_eq, cases_lt, append-nil, append_assoc, get_or_past, get_or-set_same, get_or-set_other, length-set}
use Rattle.exchange_rules.proofs.Definitions.{Message, Configuration, Queue, first_queue, appended, Node, WholeQueues, queue_at, whole, adjacent_of, release}
use Rattle.exchange_rules.specs.Touching.{IsGrown}
use Rattle.network_rules.proofs.Passing.{AllFine, IsFine, IsPassing}
use Rattle.network_rules.proofs.PassingLinks.{go_each-keeps}

-- ---- a queue

pub same-grown : (q p : Queue) → p ≡ q → IsGrown q p
same-grown q p e = record { behind = []; grown = e ∙ ap (λ (ms : List Message). record q { all = ms }) (sym (append-nil q.all)) }

pub both-grown : (q p r : Queue) → IsGrown q p → IsGrown p r → IsGrown q r
both-grown q p r e f = record {
  behind = e.behind ++ f.behind;
  grown = f.grown ∙ ap (λ (x : Queue). record x { all = x.all ++ f.behind }) e.grown
      ∙ ap (λ (ms : List Message). record q { all = ms }) (append_assoc q.all e.behind f.behind);
}

-- ---- all of them

pub record AreGrown (qs rs : WholeQueues) : Type 0 where
  pub each : (link : ℕ) → IsGrown (queue_at qs link) (queue_at rs link)
  pub size : length rs.links ≡ length qs.links

pub grown-same : (qs rs : WholeQueues) → rs ≡ qs → AreGrown qs rs
grown-same qs rs e = record { each = λ link. same-grown _ _ (ap (λ (x : WholeQueues). queue_at x link) e); size = ap (λ (x : WholeQueues). length x.links) e }

pub grown-then : (qs rs ss : WholeQueues) → AreGrown qs rs → AreGrown rs ss → AreGrown qs ss
grown-then qs rs ss e f = record { each = λ link. both-grown _ _ _ (e.each link) (f.each link); size = f.size ∙ e.size }

pub record Grows (n m : Node WholeQueues) : Type 0 where
  pub queues : AreGrown n.queues m.queues

grown-at : (qs : WholeQueues) (link : ℕ) (m : Message) → IsGrown (queue_at qs link) (queue_at (whole.appended qs link m) link)
grown-at qs link m =
    ⊎_elim
    (λ (there : link < length qs.links). record { behind = m ∷ []; grown = get_or-set_same qs.links link (appended (queue_at qs link) m) first_queue there })
    (λ (past : length qs.links ≤ link).
    same-grown _ _ (get_or_past (slice_set qs.links link (appended (queue_at qs link) m)) link first_queue
    (omega (arith, past, length-set qs.links link (appended (queue_at qs link) m))) ∙ sym (get_or_past qs.links link first_queue past)))
    (cases_lt link (length qs.links))

appended-grows : (qs : WholeQueues) (link : ℕ) (m : Message) (other : ℕ) → IsGrown (queue_at qs other) (queue_at (whole.appended qs link m) other)
appended-grows qs link m other =
    ⊎_elim
    (λ (same : other ≡ link). subst (λ (k : ℕ). IsGrown (queue_at qs k) (queue_at (whole.appended qs link m) k)) (sym same) (grown-at qs link m))
    (λ apart. same-grown _ _ (get_or-set_other qs.links link other (appended (queue_at qs link) m) first_queue apart))
    (cases_eq other link)

held-grows : (qs : WholeQueues) (held : List Message) → AreGrown qs (record { held = held; links = qs.links })
held-grows qs held = record { each = λ link. same-grown (queue_at qs link) (queue_at qs link) refl; size = refl }

-- ---- whatever the messages

abbrev pub any_message : Message → Bool
any_message m = true

pub all-any : (ms : List Message) → AllFine any_message ms
all-any [] = refl
all-any (m ∷ ms) = all-any ms

module _ (c : Configuration) where
  abbrev pub MayMake : Type 0
  MayMake = (set : ℕ) → adjacent_of c set < 2 ^ 14

  pub any-fine : MayMake → IsFine c any_message
  any-fine fits = record { adjacent = fits; made = λ point message less. refl; tested = λ point test. refl; probed = λ link. refl; users = λ m user. refl }

  pub growing : IsPassing c any_message Grows
  growing = record {
    same = λ n m e. record { queues = grown-same n.queues m.queues e };
    both = λ n m o e f. record { queues = grown-then n.queues m.queues o.queues e.queues f.queues };
    queued = λ link m n e. record { queues = record { each = λ other. appended-grows n.queues link m other; size = length-set n.queues.links link (appended (queue_at n.queues link) m) } };
    held = λ m n e. record { queues = held-grows n.queues (n.queues.held ++ m ∷ []) };
  }

  -- at the end of an event what is in Held goes on, if nothing holds it
  pub release-grows : MayMake → (n : Node WholeQueues) → Grows n (release whole c n)
  release-grows fits n =
      let out : Node WholeQueues = record n { queues = whole.without_held n.queues } in
      growing.both n out _ (record { queues = held-grows n.queues [] })
      (go_each-keeps c any_message (any-fine fits) growing n.queues.held out (all-any n.queues.held))
