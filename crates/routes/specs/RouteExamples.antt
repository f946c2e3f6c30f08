-- A flow of two joined sets, as a link of the other set leaves service. A definition that shares flows over the links
-- that are left moves this flow, though its own link stays.
use Rattle.std.specs.Prelude.{◌≡◌, true, false, [], ◌∷◌, Some}
use Rattle.routes.specs.declared.route.RouteStatus.TheVariants.{Allowed}
use Rattle.routes.specs.Routes.{Facts, with_link, chosen_link}

-- the first set has link 0, the second links 1 and 2; all are in service, and both sets lead to the destination
abbrev pub example : Facts
example = record {
  sets = (0 ∷ []) ∷ (1 ∷ 2 ∷ []) ∷ [];
  in_service = true ∷ true ∷ true ∷ [];
  routes =
      (record { set = 0; status = Allowed; joined = false } ∷ record { set = 1; status = Allowed; joined = true } ∷ [])
      ∷ [];
}

abbrev pub flow_has_link_2 : Type 0
flow_has_link_2 = chosen_link example 0 2 ≡ Some 2

-- and it keeps that link
abbrev pub flow_keeps_link_2 : Type 0
flow_keeps_link_2 = chosen_link (with_link 0 false example) 0 2 ≡ Some 2
