use Rattle.settings.proofs.Basics.{rules, tests, arith, map, ap, ◌∙◌, ◌≡◌, common_steps}
use Rattle.std.proofs.lemmas.Iterator.{YieldsList-from_slice, YieldsList-from_map, YieldsList-from_zip, same_from_all}
use Rattle.settings.proofs.facing.have_same_codes.Goals as goal

pub returns-then-near-far : goal.returns-then-near-far
returns-then-near-far c =
    let near : c.zip.result.a.iter.rest.now ≡ c.args.near.now = cc in
    let far : c.zip.result.b.iter.rest.now ≡ c.args.far.now = cc in
    let near_closure = ap (λ m. m.f) c.zip.ensures.first ∙ c.map-near_codes.ensures.closure in
    let far_closure = ap (λ m. m.f) c.zip.ensures.second ∙ c.map-far_codes.ensures.closure in
    same_from_all c.all.new.self _ _ (map (λ l. l.slc) c.args.near.now) (map (λ l. l.slc) c.args.far.now) c.all.ensures.ran
    (YieldsList-from_zip
    (YieldsList-from_map _ _ (YieldsList-from_slice c.args.near.now near) near_closure (λ x r q k. search rules))
    (YieldsList-from_map _ _ (YieldsList-from_slice c.args.far.now far) far_closure (λ x r q k. search rules)))
    (grind (arith, common_steps)) (λ x q k. search (rules, tests)) (λ x q k. search (rules, tests))
