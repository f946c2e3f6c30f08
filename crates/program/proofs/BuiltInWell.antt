-- The built-in settings as they are written have no fault.
use Rattle.std.proofs.Common.{◌≡◌, ℤ, pos, true, List, [], ◌∷◌, None, map, refl, codes, string_bytes}
use Rattle.std.specs.declared.alloc.Global.{Global}
use Rattle.std.specs.Prelude.{String}
use Rattle.settings.specs.FirstFault.{first_fault, scalars_fault, timers_fault, link_tests_fault, bar_fault, arrays_fault, tables_fault, sets_fault, links_fault, destinations_fault, unreached_fault, set_list_fault, is_first_name}
use Rattle.settings.specs.TitleFaults.{titles_fault}
use Rattle.settings.specs.Checks.{numbers_fault}
use Rattle.settings.specs.declared.key.Key.{Key}
use Rattle.settings.specs.declared.key.Key.TheVariants.{Users, Subsystems}
use Rattle.settings.specs.declared.draft.Draft.{Draft}
use Rattle.settings.specs.declared.draft.SetDraft.{SetDraft}
use Rattle.settings.specs.declared.draft.LinkDraft.{LinkDraft}
use Rattle.settings.specs.declared.draft.DestinationDraft.{DestinationDraft}
use Rattle.settings.specs.declared.draft.TitleDraft.{TitleDraft}
use Rattle.script.specs.BuiltIn.{IsBuiltIn, IsSets, IsLinks, IsDestinations, built_in_ticks}

scalars : (d : Draft) → IsBuiltIn d → scalars_fault d ≡ None
unfolding scalars_fault
scalars d h = rw (h.own, h.network, h.window, h.pool) refl

users : (ns : List ℤ) → ns ≡ pos 5 ∷ [] → numbers_fault 4 15 Users ns ≡ None
unfolding numbers_fault
users ns h = rw h refl

subsystems : (ns : List ℤ) → ns ≡ pos 8 ∷ [] → numbers_fault 1 255 Subsystems ns ≡ None
unfolding numbers_fault
subsystems ns h = rw h refl

timers : timers_fault built_in_ticks ≡ None
unfolding timers_fault link_tests_fault bar_fault
timers = refl

sets : (ss : List SetDraft) → IsSets ss → sets_fault 1 ss ≡ None
unfolding sets_fault
sets [] h = absurd h
sets (s ∷ []) h = rw (h.0, h.1) refl
sets (s ∷ t ∷ more) h = absurd h

links : (ss : List SetDraft) (ls : List LinkDraft) → IsSets ss → IsLinks ls → links_fault ss ls ≡ None
unfolding links_fault
links [] ls k h = absurd k
links (s ∷ []) [] k h = absurd h
links (s ∷ []) (l ∷ []) k h = rw (k.0, h.0, h.1, h.2, h.3) refl
links (s ∷ []) (l ∷ m ∷ more) k h = absurd h
links (s ∷ t ∷ more) ls k h = absurd k

-- one name of a set that is there
listed : (ss : List SetDraft) (key : Key) (names : List (String Global)) → IsSets ss → map (λ name. string_bytes name) names ≡ codes "east" ∷ []
    → set_list_fault ss key names ≡ None
listed [] key names k h = absurd k
listed (s ∷ []) key [] k h = cc h
listed (s ∷ []) key (name ∷ []) k h =
    let same : string_bytes name ≡ codes "east" = cc h in
    rw (k.0, same) refl
listed (s ∷ []) key (name ∷ other ∷ more) k h = cc h
listed (s ∷ t ∷ more) key names k h = absurd k

destinations : (ss : List SetDraft) (ds : List DestinationDraft) → IsSets ss → IsDestinations ds → destinations_fault 1 ss ds ≡ None
unfolding destinations_fault
destinations ss [] k h = absurd h
destinations ss (c ∷ []) k h = absurd h
destinations ss (c ∷ d ∷ []) k h = rw (h.0.0, h.1.0, h.0.2, h.1.2, listed ss _ c.sets.items k h.0.1, listed ss _ d.sets.items k h.1.1) refl
destinations ss (c ∷ d ∷ e ∷ more) k h = absurd h

titles : (ts : List TitleDraft) → ts ≡ [] → titles_fault ts ≡ None
unfolding titles_fault
titles ts h = rw h refl

-- the first name is that of the set
first : (names : List (String Global)) (s : SetDraft) → string_bytes s.name ≡ codes "east" → map (λ name. string_bytes name) names ≡ codes "east" ∷ []
    → is_first_name (string_bytes s.name) names ≡ true
first [] s k h = cc h
first (name ∷ rest) s k h =
    let same : string_bytes name ≡ codes "east" = cc h in
    rw (k, same) refl

reached : (ds : List DestinationDraft) (ss : List SetDraft) → IsSets ss → IsDestinations ds → unreached_fault ds ss ≡ None
unfolding unreached_fault
reached [] ss k h = absurd h
reached (c ∷ []) ss k h = absurd h
reached (c ∷ d ∷ []) [] k h = absurd k
reached (c ∷ d ∷ []) (s ∷ []) k h = rw (h.0.0, k.1, first c.sets.items s k.0 h.0.1) refl
reached (c ∷ d ∷ []) (s ∷ t ∷ more) k h = absurd k
reached (c ∷ d ∷ e ∷ more) ss k h = absurd h

tables : (d : Draft) → IsBuiltIn d → tables_fault d ≡ None
unfolding tables_fault
tables d h =
    rw (
      h.own,
      destinations d.sets.items d.destinations.items h.sets h.destinations,
      titles d.titles.items h.titles,
      reached d.destinations.items d.sets.items h.sets h.destinations,
    ) refl

arrays : (d : Draft) → IsBuiltIn d → arrays_fault d ≡ None
unfolding arrays_fault
arrays d h = rw (tables d h, h.own, sets d.sets.items h.sets, links d.sets.items d.links.items h.sets h.links) refl

-- all of it
pub has_no_fault : (d : Draft) → IsBuiltIn d → first_fault d ≡ None
has_no_fault d h =
    rw (
      scalars d h,
      arrays d h,
      users d.users.items h.users,
      subsystems d.subsystems.items h.subsystems,
      h.timers,
      timers,
    ) refl
