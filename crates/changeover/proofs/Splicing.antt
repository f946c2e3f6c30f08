-- The user messages of one list go before everything in another, and its management messages stay.
use Rattle.changeover.proofs.Basics.{◌≡◌, ◌≢◌, ℕ, ◌<◌, Bool, true, false, not, cond, List, [], ◌∷◌, ◌++◌, length, drop, refl, ap, sym, ◌∙◌, arith, filter, set, get_or-set_same, get_or-set_other, length-set, Message, is_management, lane_at, dropped, list_at, put_before, left-before, users_of, managements_of, splicing_completes}

twice : (b : Bool) → not (not b) ≡ b
twice true = refl
twice false = refl

-- those that aren't user messages are the management messages
pub left-managements : (ms : List Message) → filter (λ m. not (not (is_management m))) ms ≡ managements_of ms
left-managements [] = refl
left-managements (m ∷ ms) =
    ap (λ (b : Bool). cond b (m ∷ filter (λ x. not (not (is_management x))) ms) (filter (λ x. not (not (is_management x))) ms)) (twice (is_management m))
    ∙ ap (λ (rest : List Message). cond (is_management m) (m ∷ rest) rest) (left-managements ms)

there : (lists : List (List Message)) (from to : ℕ) (left gone : List Message) → to ≢ from → to < length lists →
    lane_at (put_before lists from left gone to) to ≡ gone ++ lane_at lists to
there lists from to left gone apart h =
    get_or-set_same (set lists from left) to (gone ++ list_at (set lists from left) to) [] (omega (arith, h, length-set lists from left))
    ∙ ap (λ (ms : List Message). gone ++ ms) (get_or-set_other lists from to left [] apart)

pub splices : splicing_completes
splices lists lane count held h k apart =
    let rest : List (List Message) = dropped lists lane count in
    let apart_too : held ≢ lane = λ e. apart (sym e) in
    let list : lane_at rest lane ≡ drop count (lane_at lists lane) = get_or-set_same lists lane (drop count (lane_at lists lane)) [] h in
    let same : lane_at rest held ≡ lane_at lists held = get_or-set_other lists lane held (drop count (lane_at lists lane)) [] apart_too in
    let inside : lane < length rest = omega (arith, h, length-set lists lane (drop count (lane_at lists lane))) in
    let target : held < length rest = omega (arith, k, length-set lists lane (drop count (lane_at lists lane))) in
    let left : List Message = filter (λ m. not (not (is_management m))) (lane_at rest lane) in (
      there rest lane held left (users_of (lane_at rest lane)) apart_too target
          ∙ ap (λ (ms : List Message). users_of ms ++ lane_at rest held) list
          ∙ ap (λ (ms : List Message). users_of (drop count (lane_at lists lane)) ++ ms) same,
      left-before rest lane held left (users_of (lane_at rest lane)) apart inside
          ∙ left-managements (lane_at rest lane) ∙ ap managements_of list,
    )
