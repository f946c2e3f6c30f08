-- Each link has its other end, and so all have.
use Rattle.std.proofs.Common.{◌≡◌, true, Option, Some, is_some, length, refl, ap, sym, subst, ◌∙◌, arith}
use Rattle.std.specs.Prelude.{slice_get}
use Rattle.std.proofs.lemmas.Option.{slice_get-get_or}
use Rattle.settings.specs.Configuration.{Configuration}
use Rattle.network_world.specs.KeptNetworks.{kept_other_end}
use Rattle.network_world.specs.KeptNodes.{KeptNode}
use Rattle.network_world.proofs.reaching.is_linked.Goals as goal

same-node : (x y : KeptNode) → Some x ≡ Some y → x ≡ y
same-node x y e = cc

pub returns : goal.returns
returns c =
    let xs = c.args.nodes.now in
    let its : KeptNode = c.index-nodes-near.result in
    let got : slice_get xs c.args.near ≡ Some its =
    slice_get-get_or xs c.args.near its c.requires ∙ ap (λ (n : KeptNode). Some n) (sym c.index-nodes-near.is) in (
      (λ yes n e link less.
          let same : n ≡ its = same-node n its (sym e ∙ got) in
          let count : c.link_count-links.result ≡ length n.exchange.settings.links =
          c.link_count-links.ensures.value ∙ ap (λ (d : Configuration). length d.links) c.settings.ensures
          ∙ ap (λ (m : KeptNode). length m.exchange.settings.links) (sym same) in
          subst (λ (o : Option KeptNode). is_some (kept_other_end xs o link) ≡ true) e
          (c.loop-link.invariant link (omega (arith, less, count, c.loop-link-test.false, c.link_count-links.ensures.fits)))),
      (λ all. refl),
    )
