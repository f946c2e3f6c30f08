-- Queues of one kind that are kept as those of another, rules that do the same over both, and how such rules are put
-- together.
use Rattle.exchange_rules.proofs.Basics.{◌≡◌, ℕ, Bool, true, false, Option, refl, ap, ◌∙◌, if◌then◌else◌}
use Rattle.exchange_rules.proofs.Definitions.{Message, Outcome, Parts, Node, Done, QueueKind, keep, with_parts, answer}

-- y is what h keeps of x, and x is sound
pub record IsKept {P Q : Type 0} (h : P → Q) (IsFit : P → Type 0) (y : Q) (x : P) : Type 0 where
  pub same : y ≡ h x
  pub fit : IsFit x

-- h keeps queues of kind p, where they are sound, as queues of kind q, under windows of w
pub record IsKeeping {P Q : Type 0} (p : QueueKind P) (q : QueueKind Q) (h : P → Q) (IsFit : P → Type 0) (w : ℕ) : Type 0 where
  pub started : (x : P) (l : ℕ) → IsFit x → IsKept h IsFit (q.started (h x) l) (p.started x l)
  pub appended : (x : P) (l : ℕ) (m : Message) → IsFit x → IsKept h IsFit (q.appended (h x) l m) (p.appended x l m)
  pub accept_answer : (x : P) (l f b : ℕ) (c : Bool) → IsFit x → q.accept_answer (h x) l f b c ≡ p.accept_answer x l f b c
  pub accepted : (x : P) (l f b : ℕ) (c : Bool) → IsFit x → IsKept h IsFit (q.accepted (h x) l f b c) (p.accepted x l f b c)
  pub to_send : (x : P) (l : ℕ) → IsFit x → q.to_send (h x) l w ≡ p.to_send x l w
  pub sent_one : (x : P) (l : ℕ) → IsFit x → IsKept h IsFit (q.sent_one (h x) l w) (p.sent_one x l w)
  pub unconfirmed : (x : P) (l : ℕ) → q.unconfirmed (h x) l ≡ p.unconfirmed x l
  pub found : (x : P) (l : ℕ) (number : Option ℕ) → IsFit x → q.found (h x) l number ≡ p.found x l number
  pub completed : (x : P) (l : ℕ) (number : Option ℕ) → IsFit x → IsKept h IsFit (q.completed (h x) l number) (p.completed x l number)
  pub held : (x : P) → q.held (h x) ≡ p.held x
  pub holding : (x : P) (m : Message) → IsFit x → IsKept h IsFit (q.holding (h x) m) (p.holding x m)
  pub without_held : (x : P) → IsFit x → IsKept h IsFit (q.without_held (h x)) (p.without_held x)
  pub outstanding : (x : P) (l : ℕ) → q.outstanding (h x) l ≡ p.outstanding x l
  pub last_sent : (x : P) (l : ℕ) → IsFit x → q.last_sent (h x) l ≡ p.last_sent x l
  pub last_accepted : (x : P) (l : ℕ) → q.last_accepted (h x) l ≡ p.last_accepted x l
  pub users : (x : P) → q.users (h x) ≡ p.users x
  pub managements : (x : P) → q.managements (h x) ≡ p.managements x

-- a node of the one kind is what is kept of a sound one of the other
pub record KeepsNode {P Q : Type 0} (h : P → Q) (IsFit : P → Type 0) (n : Node Q) (m : Node P) : Type 0 where
  pub same : n ≡ keep h m
  pub fit : IsFit m.queues

-- so is what a rule did
pub record Keeps {P Q : Type 0} (h : P → Q) (IsFit : P → Type 0) (t : Done Q) (s : Done P) : Type 0 where
  pub same : t ≡ record { outcome = s.outcome; left = keep h s.left }
  pub fit : IsFit s.left.queues

-- ---- ways to put rules together

module _ {P Q : Type 0} {h : P → Q} {IsFit : P → Type 0} where
  -- queues and parts change
  pub changed : (y : Q) (x : P) (parts : Parts) → IsKept h IsFit y x → KeepsNode h IsFit (record { queues = y; parts = parts }) (record { queues = x; parts = parts })
  changed y x parts e = record { same = ap (λ (z : Q). record { queues = z; parts = parts }) e.same; fit = e.fit }

  -- an answer leaves a node
  pub answered : (o : Outcome) (n : Node Q) (m : Node P) → KeepsNode h IsFit n m → Keeps h IsFit (answer o n) (answer o m)
  answered o n m e = record { same = ap (λ (z : Node Q). answer o z) e.same; fit = e.fit }

  -- only the parts change, or nothing does
  pub parted : (o : Outcome) (parts : Parts) (x : P) → IsFit x → Keeps h IsFit (answer o (record { queues = h x; parts = parts })) (answer o (record { queues = x; parts = parts }))
  parted o parts x f = record { same = refl; fit = f }

  -- a test that both sides share
  pub either : (b : Bool) (t u : Done Q) (s v : Done P) → Keeps h IsFit t s → Keeps h IsFit u v → Keeps h IsFit (if b then t else u) (if b then s else v)
  either true t u s v e f = e
  either false t u s v e f = f

  -- the parts of a node change by a rule of their own
  pub parts-kept : (g : Parts → Parts) (n : Node Q) (m : Node P) → KeepsNode h IsFit n m → KeepsNode h IsFit (with_parts n (g n.parts)) (with_parts m (g m.parts))
  parts-kept g n m e = record { same = ap (λ (z : Node Q). with_parts z (g z.parts)) e.same; fit = e.fit }

  -- a test that both sides share, between nodes
  pub either_node : (b : Bool) (t u : Node Q) (s v : Node P) → KeepsNode h IsFit t s → KeepsNode h IsFit u v → KeepsNode h IsFit (if b then t else u) (if b then s else v)
  either_node true t u s v e f = e
  either_node false t u s v e f = f

  -- a test that both kinds answer alike, between nodes
  pub alike_node : (b d : Bool) (t u : Node Q) (s v : Node P) → b ≡ d → KeepsNode h IsFit t s → KeepsNode h IsFit u v → KeepsNode h IsFit (if b then t else u) (if d then s else v)
  alike_node b d t u s v g e f =
      let r : KeepsNode h IsFit (if d then t else u) (if d then s else v) = either_node d t u s v e f in
      record { same = ap (λ (x : Bool). if x then t else u) g ∙ r.same; fit = r.fit }

  -- one rule after another, between nodes
  pub behind_node : (g : Node Q → Node Q) (s : Node P) (n : Node Q) (m : Node P) → n ≡ keep h m → KeepsNode h IsFit (g (keep h m)) s → KeepsNode h IsFit (g n) s
  behind_node g s n m e r = record { same = ap g e ∙ r.same; fit = r.fit }

  -- one rule after another
  pub behind : (f : Node Q → Done Q) (s : Done P) (n : Node Q) (m : Node P) → n ≡ keep h m → Keeps h IsFit (f (keep h m)) s → Keeps h IsFit (f n) s
  behind f s n m e r = record { same = ap f e ∙ r.same; fit = r.fit }
