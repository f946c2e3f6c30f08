-- What a client is answered that names a link that isn't there.
use Rattle.std.specs.Prelude.{ℕ, ◌+◌, ◌/◌, Bool, nat_lt, max, if◌then◌else◌, List, [], ◌∷◌, ◌++◌, codes, length, Option, None, Some}
use Rattle.settings.specs.Configuration.{Configuration, LinkEntry}
use Rattle.console.specs.ClientWords.{edits, is_shown}

-- the first of some links to whose name fewest edits lead, if those are fewer than too many; if none is, the one found
-- before
unfoldable pub nearest_link_from : List ℕ → List LinkEntry → (found : Option (List ℕ)) → (too_many : ℕ) → Option (List ℕ)
nearest_link_from text [] found too_many = found
nearest_link_from text (row ∷ more) found too_many =
    if nat_lt (edits text row.name) too_many
    then nearest_link_from text more (Some row.name) (edits text row.name)
    else nearest_link_from text more found too_many

-- the nearest name of a link: at most one edit leads there, or one for every three octets of the text
abbrev pub nearest_link : List LinkEntry → List ℕ → Option (List ℕ)
nearest_link links text =
    if is_shown text then nearest_link_from text links None (1 + max (length text / 3) 1) else None

abbrev pub near_link : (lacks_memory : Bool) → List LinkEntry → List ℕ → Option (List ℕ)
near_link lacks_memory links text = if lacks_memory then None else nearest_link links text

abbrev pub near_link_text : Option (List ℕ) → List ℕ
near_link_text (Some name) = codes "the nearest link is " ++ name ++ codes "\n"
near_link_text None = []

-- no link has this name; the nearest one, if one is near, and if there is memory to look for it
abbrev pub no_link_text : (lacks_memory : Bool) → Configuration → List ℕ → List ℕ
no_link_text lacks_memory c text = codes "refused 22 NoSuchName\n" ++ near_link_text (near_link lacks_memory c.links text)
