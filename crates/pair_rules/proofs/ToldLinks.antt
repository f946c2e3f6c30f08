-- What the orders and answers about a link of a shared set say to the node at its other end.
use Rattle.pair_rules.proofs.Basics.{◌≡◌, ◌<◌, ◌^◌, ℕ, Bool, None, ap, ◌∙◌, if◌then◌else◌, option_map}
use Rattle.pair_rules.proofs.Definitions.{Message, opc_of, Configuration, IsManagement, read_management, Management, ExtendedChangeoverOrder, ExtendedChangeoverAcknowledgement, entry_of, management_to, link_with_code, set_of, made-opc, made-says, code-fits, about, word_in, word_of, word_read}
use Rattle.exchange_rules.proofs.MadeManagement.{made-management}
use Rattle.exchange_rules.proofs.SharingNodes.{AreEnds, shared-peer, shared-ends}
use Rattle.pair_rules.specs.Sharing.{AreSharing, SayOneLink, links_are_told_by_their_codes}

module _ (near far : Configuration) (a : AreSharing near far) where
  -- what is made for the far point is read there as it was written
  read-there : (word : Management) → IsManagement word → word_of far (management_to near far.own word) ≡ word_in far near.own word
  read-there word h =
      let m : Message = management_to near far.own word in
      ap (λ (b : Bool). if b then word_read far (opc_of m) (read_management m.sif) else None) (made-management near a.near_well far.own word)
      ∙ ap (word_read far (opc_of m)) (made-says near a.near_well far.own word a.far_well.own h)
      ∙ ap (λ (point : ℕ). word_in far point word) (made-opc near a.near_well far.own word a.far_well.own h)

  one-link : (link number other : ℕ) → set_of near link ≡ a.shares.near_set → number < 2 ^ 24 → AreEnds near far link other → SayOneLink near far link number
  one-link link number other its fits e = record {
    other = other;
    code = e.slc;
    there = e.far_named;
    back = ap (link_with_code near far.own) e.slc ∙ e.near_named;
    order =
        ap (λ (point : ℕ). word_of far (management_to near point (ExtendedChangeoverOrder (entry_of near link).slc number))) (shared-peer near far a.shares a.near_well link its)
        ∙ read-there (ExtendedChangeoverOrder (entry_of near link).slc number) (code-fits near a.near_well link, fits)
        ∙ ap (option_map (about number)) e.far_named;
    answer =
        ap (λ (point : ℕ). word_of far (management_to near point (ExtendedChangeoverAcknowledgement (entry_of near link).slc number))) (shared-peer near far a.shares a.near_well link its)
        ∙ read-there (ExtendedChangeoverAcknowledgement (entry_of near link).slc number) (code-fits near a.near_well link, fits)
        ∙ ap (option_map (about number)) e.far_named;
  }

pub links-told : links_are_told_by_their_codes
links-told near far link number a there its fits =
    let ends : (other : ℕ) × AreEnds near far link other = shared-ends near far a.shares a.near_well link there its in
    one-link near far a link number ends.0 its fits ends.1
