-- Frames that are taken one after another, with some left to take.
use Rattle.std.proofs.Common.{◌≡◌, ◌∙◌, ◌<◌, ◌≤◌, ◌+◌, ◌*◌, ◌-◌, ℕ, suc, arith, Bool, true, false, List, Option, Some, None, refl, sym, ap, subst, take, length}
use Rattle.std.proofs.lemmas.List.{length-take}
use Rattle.std.specs.Prelude.{if◌then◌else◌}
use Rattle.std.specs.Option.{option_map}
use Rattle.m2pa_codec.specs.Frames.{FrameValue, spelled}
use Rattle.sctp_rules.specs.Waiting.{has_room_behind}
use Rattle.sctp_bundling.specs.Watching.{Sent}
use Rattle.exchange_rules.specs.Exchange.{taken}
use Rattle.exchange.specs.KeptQueues.{KeptQueues, kept}
use Rattle.exchange.specs.Calls.{Kept}
use Rattle.exchange.specs.Taking.{Writes}
use Rattle.sctp_gate.specs.Watching.{Sight}
use Rattle.sctp_gate.specs.Gates.{Gate, Did, nothing, text_to_take, given, taken_by, taken_all}
use Rattle.sctp_gate.specs.Making.{Makes}
use Rattle.sctp_gate.proofs.Making.{makes-nothing, makes-then}

-- a frame that was taken lies at the front of the buffer
pub text-some : (frame : Option FrameValue) (count : ℕ) (old new : List ℕ) → Writes frame (Some count) old new → option_map spelled frame ≡ Some (take count new)
text-some (Some frame) count old new h =
    let same : count ≡ length (spelled frame) = cc in
    ap Some (sym (ap (λ (n : ℕ). take n new) same ∙ h.1))
text-some None count old new h = absurd cc

pub text-none : (frame : Option FrameValue) (old new : List ℕ) → Writes frame None old new → option_map spelled frame ≡ None
text-none (Some frame) old new h = absurd cc
text-none None old new h = refl

-- a frame that was taken has 290 octets at most
pub taken-fits : (count : ℕ) (buffer : List ℕ) → count ≤ 290 → length (take count buffer) ≤ 290
taken-fits count buffer fits = (let l = length-take count buffer in omega (arith, l, fits))

-- one more may be taken
pub all-more : (at octets : ℕ) (g : Gate) (s : Kept) → at < 256 → taken_all kept (256 - at) octets g s
    ≡ (if has_room_behind g.endpoint.state octets then taken_by kept (λ frame h t. taken_all kept (256 - (at + 1)) (octets + length frame) h t) (text_to_take kept s g.link) g s else nothing g s)
unfolding taken_all
all-more at octets g s h =
    let left : 256 - at ≡ suc (256 - (at + 1)) = omega (arith, h) in
    rw left refl

pub all-done : (at octets : ℕ) (g : Gate) (s : Kept) → 256 ≤ at → taken_all kept (256 - at) octets g s ≡ nothing g s
unfolding taken_all
all-done at octets g s h =
    let left : 256 - at ≡ 0 = omega (arith, h) in
    rw left refl

-- what is left to do from here leads to what is to be done from the start
abbrev pub LeadsTo : {W : Type 0} (has : W → List Sent → List Sight → Type 0) (start here : W) (all rest : Did KeptQueues) → Type 0
LeadsTo {W = W} has start here all rest = (w : W) (g : Gate) (s : Kept) → Makes has here w g s rest → Makes has start w g s all

-- and frames of n octets were given
pub record IsFilling {W : Type 0} (has : W → List Sent → List Sight → Type 0) (start here : W) (all rest : Did KeptQueues) (octets at : ℕ) : Type 0 where
  pub leads : LeadsTo has start here all rest
  pub most : octets ≤ 290 * at

module _ {W : Type 0} (has : W → List Sent → List Sight → Type 0) (start here : W) (all : Did KeptQueues) (at octets : ℕ) (g : Gate) (s : Kept) where
  abbrev rest_of : List ℕ → Gate → Kept → Did KeptQueues
  rest_of frame h t = taken_all kept (256 - (at + 1)) (octets + length frame) h t

  -- there is no room for one
  pub leads-full : LeadsTo has start here all (taken_all kept (256 - at) octets g s) → at < 256 → has_room_behind g.endpoint.state octets ≡ false → Makes has start here g s all
  leads-full leads below full =
      leads here g s (subst (λ (d : Did KeptQueues). Makes has here here g s d) (sym (all-more at octets g s below ∙ ap (λ (b : Bool). if b then taken_by kept rest_of (text_to_take kept s g.link) g s else nothing g s) full)) (makes-nothing has here g s))

  -- there is room
  room-more : at < 256 → has_room_behind g.endpoint.state octets ≡ true → (text : Option (List ℕ)) → text_to_take kept s g.link ≡ text
      → taken_all kept (256 - at) octets g s ≡ taken_by kept rest_of text g s
  room-more below room text is =
      all-more at octets g s below
      ∙ ap (λ (b : Bool). if b then taken_by kept rest_of (text_to_take kept s g.link) g s else nothing g s) room
      ∙ ap (λ (o : Option (List ℕ)). taken_by kept rest_of o g s) is

  -- the link has none
  pub leads-none : (t : Kept) → LeadsTo has start here all (taken_all kept (256 - at) octets g s) → at < 256 → has_room_behind g.endpoint.state octets ≡ true → text_to_take kept s g.link ≡ None
      → t ≡ taken kept s g.link → Makes has start here g t all
  leads-none t leads below room none is =
      leads here g t (subst (λ (d : Did KeptQueues). Makes has here here g t d) (sym (room-more below room None none)) (subst (λ (u : Kept). Makes has here here g t (nothing g u)) is (makes-nothing has here g t)))

  -- one more is given
  pub leads-on : (frame : List ℕ) (t u : Kept) (h : Gate) (next : W) → LeadsTo has start here all (taken_all kept (256 - at) octets g s) → at < 256 → has_room_behind g.endpoint.state octets ≡ true
      → text_to_take kept s g.link ≡ Some frame → t ≡ taken kept s g.link → Makes has here next h u (given frame g t)
      → LeadsTo has start next all (taken_all kept (256 - (at + 1)) (octets + length frame) h u)
  leads-on frame t u h next leads below room some is made w k v rest =
      leads w k v
      (subst (λ (d : Did KeptQueues). Makes has here w k v d) (sym (room-more below room (Some frame) some))
      (makes-then has here next w h k u v (given frame g (taken kept s g.link)) (λ m n. rest_of frame m n) (subst (λ (x : Kept). Makes has here next h u (given frame g x)) is made) rest))

  pub fills-on : (frame : List ℕ) (count : ℕ) (t u : Kept) (h : Gate) (next : W) → IsFilling has start here all (taken_all kept (256 - at) octets g s) octets at → at < 256
      → has_room_behind g.endpoint.state octets ≡ true → text_to_take kept s g.link ≡ Some frame → t ≡ taken kept s g.link → count ≡ length frame → length frame ≤ 290
      → Makes has here next h u (given frame g t) → IsFilling has start next all (taken_all kept (256 - (at + 1)) (octets + count) h u) (octets + count) (at + 1)
  fills-on frame count t u h next filling below room some is counted fits made =
      let so_far = filling.most in
      subst (λ (n : ℕ). IsFilling has start next all (taken_all kept (256 - (at + 1)) (octets + n) h u) (octets + n) (at + 1)) (sym counted)
      (record { leads = leads-on frame t u h next filling.leads below room some is made; most = omega (arith, so_far, fits) })

  -- as many as may be taken at once were
  pub leads-home : LeadsTo has start here all (taken_all kept (256 - at) octets g s) → 256 ≤ at → Makes has start here g s all
  leads-home leads enough = leads here g s (subst (λ (d : Did KeptQueues). Makes has here here g s d) (sym (all-done at octets g s enough)) (makes-nothing has here g s))
