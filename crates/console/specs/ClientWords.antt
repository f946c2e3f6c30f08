-- The words that a client of the console writes.
use Rattle.std.specs.Prelude.{ℕ, ◌+◌, ◌/◌, List, [], ◌∷◌, codes, length, bytes_eq, if◌then◌else◌, Option, None, Some}
use Rattle.std.specs.Prelude.{Bool, ◌&&◌, nat_le, nat_lt, max}
use Rattle.std.specs.List.{list_all}
use Rattle.std.specs.Str.{chars}
use Rattle.std.specs.Char.{is_ascii_graphic}
use Rattle.strsim.specs.Edits.{osa_table}
use Rattle.console.specs.declared.client_words.ClientWord.{ClientWord}
use Rattle.console.specs.declared.client_words.ClientWord.TheVariants as word

abbrev pub client_word : ClientWord → List ℕ
client_word word.Help = codes "help"
client_word word.Show = codes "show"
client_word word.Submit = codes "submit"
client_word word.Activate = codes "activate"
client_word word.Deactivate = codes "deactivate"
client_word word.Release = codes "release"
client_word word.Title = codes "title"
client_word word.Test = codes "test"
client_word word.Users = codes "users"
client_word word.Watch = codes "watch"
client_word word.Capture = codes "capture"
client_word word.Quit = codes "quit"
client_word word.Stop = codes "stop"
client_word word.Links = codes "links"
client_word word.Routes = codes "routes"
client_word word.Titles = codes "titles"
client_word word.Subsystems = codes "subsystems"
client_word word.Notices = codes "notices"
client_word word.Flags = codes "flags"
client_word word.Losses = codes "losses"
client_word word.Reroutings = codes "reroutings"
client_word word.Counters = codes "counters"
client_word word.Version = codes "version"
client_word word.Alarms = codes "alarms"
client_word word.Timers = codes "timers"
client_word word.Sets = codes "sets"
client_word word.Link = codes "link"
client_word word.Settings = codes "settings"

-- what a line of this command, or with this word behind `show`, must be
abbrev pub form : ClientWord → List ℕ
form word.Help = codes "help"
form word.Submit = codes "submit HEX, of two hexadecimal digits for each octet"
form word.Activate = codes "activate LINK, or activate LINK emergency"
form word.Deactivate = codes "deactivate LINK"
form word.Release = codes "release LINK"
form word.Title = codes "title add .., title set .. or title remove ..; help has their words"
form word.Users = codes "users"
form word.Watch = codes "watch, or watch frames"
form word.Capture = codes "capture start or capture stop, for all links; or with LINK behind it, for that one"
form word.Quit = codes "quit"
form word.Stop = codes "stop"
form word.Test = codes "test title T P N DIGITS"
form word.Link = codes "show link LINK"
form _ = codes "show and what help lists behind it"

-- the first of some that is this word
abbrev pub first_client_word : List ℕ → List ClientWord → Option ClientWord
first_client_word text [] = None
first_client_word text (word ∷ more) = if bytes_eq text (client_word word) then Some word else first_client_word text more

-- ---- the nearest word

-- how many edits lead from one text to another: a character put in, taken off or replaced, or two in a row that change
-- places
unfoldable pub edits : (from to : List ℕ) → ℕ
edits from to = (osa_table (chars from) (chars to)).last_row (length (chars to))

-- the first of some words that fewest edits lead to, if those are fewer than too many; if none is, the one found before
unfoldable pub nearest_from : List ℕ → List ClientWord → (found : Option ClientWord) → (too_many : ℕ) → Option ClientWord
nearest_from text [] found too_many = found
nearest_from text (word ∷ more) found too_many =
    if nat_lt (edits text (client_word word)) too_many
    then nearest_from text more (Some word) (edits text (client_word word))
    else nearest_from text more found too_many

-- a line shows a word of at most 32 characters that a terminal prints
abbrev pub is_shown : List ℕ → Bool
is_shown text = nat_le (length text) 32 && list_all is_ascii_graphic text

-- the nearest of some words: at most one edit leads there, or one for every three octets of the text
abbrev pub nearest : List ℕ → List ClientWord → Option ClientWord
nearest text words =
    if is_shown text then nearest_from text words None (1 + max (length text / 3) 1) else None
