-- Frames that are taken, some first and then one more.
use Rattle.served_link.proofs.Basics.{◌≡◌, ℕ, ◌∙◌, Bool, true, false, if◌then◌else◌, List, [], ◌∷◌, ◌++◌, length, take, Option, Some, None, refl, sym, ap, subst, append_assoc, append-nil, concat, option_map, FrameValue, spelled, QueueKind, State, taken, Sight, WentOut, SeesEach, text_to_take, has_room, TakesEach, sights_of_frames, Takes, after_last}
use Rattle.exchange.specs.Taking.{Writes}
use Rattle.served_link.proofs.Handing.{sees-append}

-- a frame that was taken lies at the front of the buffer
pub text-some : (frame : Option FrameValue) (count : ℕ) (old new : List ℕ) → Writes frame (Some count) old new → option_map spelled frame ≡ Some (take count new)
text-some (Some frame) count old new h =
    let same : count ≡ length (spelled frame) = cc in
    ap Some (sym (ap (λ (n : ℕ). take n new) same ∙ h.1))
text-some None count old new h = absurd cc

pub text-none : (frame : Option FrameValue) (old new : List ℕ) → Writes frame None old new → option_map spelled frame ≡ None
text-none (Some frame) old new h = absurd cc
text-none None old new h = refl

each-more : {Q : Type 0} (q : QueueKind Q) (link : ℕ) (frames : List (List ℕ)) (frame pending next : List ℕ) (s t : State Q) → TakesEach q link frames pending next s t
    → has_room next ≡ true → text_to_take q t link ≡ Some frame → TakesEach q link (frames ++ frame ∷ []) pending (next ++ frame) s (taken q t link)
each-more {Q = Q} q link [] frame pending next s t h room text = (
  subst (λ (xs : List ℕ). has_room xs ≡ true) h.0 room,
  subst (λ (u : State Q). text_to_take q u link ≡ Some frame) h.1 text,
  (ap (λ (xs : List ℕ). xs ++ frame) h.0, ap (λ (u : State Q). taken q u link) h.1),
)
each-more q link (f ∷ frames) frame pending next s t h room text =
    (h.0, h.1, each-more q link frames frame (pending ++ f) next (taken q s link) t h.2 room text)

sights-more : (link : ℕ) (frames : List (List ℕ)) (frame : List ℕ) → sights_of_frames link (frames ++ frame ∷ []) ≡ sights_of_frames link frames ++ WentOut link frame ∷ []
sights-more link [] frame = refl
sights-more link (f ∷ frames) frame = ap (λ (xs : List Sight). WentOut link f ∷ xs) (sights-more link frames frame)

-- no frame was taken
pub takes-none : {W Q : Type 0} (sees : W → Sight → W → Type 0) (q : QueueKind Q) (link : ℕ) (pending : List ℕ) (s : State Q) (w : W) → Takes sees q link pending pending s s w w
takes-none sees q link pending s w = record { frames = []; each = (refl, refl); seen = refl }

-- and one more
pub takes-more : {W Q : Type 0} (sees : W → Sight → W → Type 0) (q : QueueKind Q) (link : ℕ) (frame pending next new : List ℕ) (s t u : State Q) (w x y : W)
    → Takes sees q link pending next s t w x → has_room next ≡ true → text_to_take q t link ≡ Some frame → new ≡ next ++ frame → u ≡ taken q t link → sees x (WentOut link frame) y
    → Takes sees q link pending new s u w y
takes-more {W = W} {Q = Q} sees q link frame pending next new s t u w x y h room text behind state seen = record {
  frames = h.frames ++ frame ∷ [];
  each =
      subst (λ (v : State Q). TakesEach q link (h.frames ++ frame ∷ []) pending new s v) (sym state)
      (subst (λ (xs : List ℕ). TakesEach q link (h.frames ++ frame ∷ []) pending xs s (taken q t link)) (sym behind) (each-more q link h.frames frame pending next s t h.each room text));
  seen =
      subst (λ (xs : List Sight). SeesEach sees xs w y) (sym (sights-more link h.frames frame))
      (sees-append sees (sights_of_frames link h.frames) (WentOut link frame ∷ []) w x y h.seen (y, seen, refl));
}

-- their octets come after those before
pub go-behind : {Q : Type 0} (q : QueueKind Q) (link : ℕ) (frames : List (List ℕ)) (pending next : List ℕ) (s t : State Q) → TakesEach q link frames pending next s t → next ≡ pending ++ concat frames
go-behind q link [] pending next s t h = h.0 ∙ sym (append-nil pending)
go-behind q link (f ∷ frames) pending next s t h =
    go-behind q link frames (pending ++ f) next (taken q s link) t h.2 ∙ append_assoc pending f (concat frames)

-- ---- the end of it

-- a take that gave nothing
pub last-asked : {Q : Type 0} (q : QueueKind Q) (link : ℕ) (pending : List ℕ) (s : State Q) → has_room pending ≡ true → taken q s link ≡ after_last q link pending s
last-asked q link pending s room = ap (λ (b : Bool). if b then taken q s link else s) (sym room)

-- no room for one
pub last-full : {Q : Type 0} (q : QueueKind Q) (link : ℕ) (pending : List ℕ) (s : State Q) → has_room pending ≡ false → s ≡ after_last q link pending s
last-full q link pending s full = ap (λ (b : Bool). if b then taken q s link else s) (sym full)
