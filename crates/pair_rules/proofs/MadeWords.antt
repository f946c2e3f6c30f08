-- What the changeover orders and answers that a node makes say to the node that it faces.
use Rattle.pair_rules.proofs.Basics.{◌≡◌, ◌<◌, ◌^◌, ℕ, Bool, Some, None, length, ap, ◌∙◌, if◌then◌else◌, option_map}
use Rattle.pair_rules.proofs.Definitions.{Message, opc_of, Configuration, IsManagement, read_management, Management, ExtendedChangeoverOrder, ExtendedChangeoverAcknowledgement, entry_of, management_to, link_with_code, made-opc, made-says, AreJoined, SayTheirWord, about, word_in, word_of, word_read, words_are_read}
use Rattle.exchange_rules.proofs.MadeManagement.{made-management}
use Rattle.pair_rules.proofs.Good.{IsJoined}
use Rattle.pair_rules.proofs.Joined.{joined}
use Rattle.pair_rules.proofs.Promised.{joined-turned}

module _ (near far : Configuration) (g : AreJoined near far) where
  j : IsJoined near far
  j = joined near far g.near_well g.far_well g.facing

  k : IsJoined far near
  k = joined far near (joined-turned near far g).near_well (joined-turned near far g).far_well (joined-turned near far g).facing

  -- what is made for the far point is read there as it was written
  read-there : (word : Management) → IsManagement word → word_of far (management_to near far.own word) ≡ word_in far near.own word
  read-there word h =
      let m : Message = management_to near far.own word in
      ap (λ (b : Bool). if b then word_read far (opc_of m) (read_management m.sif) else None) (made-management near g.near_well far.own word)
      ∙ ap (word_read far (opc_of m)) (made-says near g.near_well far.own word g.far_well.own h)
      ∙ ap (λ (point : ℕ). word_in far point word) (made-opc near g.near_well far.own word g.far_well.own h)

  its-link : (link number : ℕ) → link < length near.links → option_map (about number) (link_with_code far near.own (entry_of near link).slc) ≡ Some (about number link)
  its-link link number l = ap (option_map (about number)) (k.heard link l)

  pub say-their-word : (link number : ℕ) → link < length near.links → number < 2 ^ 24 → SayTheirWord near far link number
  say-their-word link number l fits = record {
    order =
        ap (λ (point : ℕ). word_of far (management_to near point (ExtendedChangeoverOrder (entry_of near link).slc number))) (j.peer link)
        ∙ read-there (ExtendedChangeoverOrder (entry_of near link).slc number) (j.slc link, fits)
        ∙ its-link link number l;
    answer =
        ap (λ (point : ℕ). word_of far (management_to near point (ExtendedChangeoverAcknowledgement (entry_of near link).slc number))) (j.peer link)
        ∙ read-there (ExtendedChangeoverAcknowledgement (entry_of near link).slc number) (j.slc link, fits)
        ∙ its-link link number l;
  }

pub words-read : words_are_read
words-read near far link number g l fits = say-their-word near far g link number l fits
