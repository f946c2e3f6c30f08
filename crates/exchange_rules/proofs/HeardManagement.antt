-- What the far end of two facing nodes does with management that the near end made.
use Rattle.exchange_rules.proofs.Basics.{◌≡◌, ap, ◌∙◌, arith}
use Rattle.exchange_rules.proofs.Definitions.{Message, Configuration, IsWell, Management, IsManagement, management_to, whither_goes}
use Rattle.settings.specs.Facing.{IsFacing}
use Rattle.mtp3_codec.specs.declared.discrimination.Discrimination.TheVariants.{Here}
use Rattle.mtp3_codec.proofs.Reading.{label_of}
use Rattle.exchange_rules.proofs.MadeManagement.{made-network, made-long, made-short, made-label, made-dpc, comes-here}

module _ (near far : Configuration) (f : IsFacing near far) (near_well : IsWell near) (far_well : IsWell far) where
  module _ (m : Management) (h : IsManagement m) where
    abbrev made : Message
    made = management_to near far.own m

    -- it goes no further
    pub made-here : whither_goes far made ≡ Here (label_of far.own near.own m)
    made-here =
        comes-here far made (omega (arith, made-long near near_well far.own m)) (omega (arith, made-short near near_well far.own m))
        (made-network near near_well far.own m ∙ f.network) (made-dpc near near_well far.own m far_well.own h)
        ∙ ap Here (made-label near near_well far.own m far_well.own h)
