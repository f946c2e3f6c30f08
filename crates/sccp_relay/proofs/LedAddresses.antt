-- The addresses of what goes on and of what is returned, and where they are led.
use Rattle.std.proofs.Common.{◌≡◌, ℕ, ◌^◌, ◌<◌, Bool, true, false, cond, List, Option, Some, None, Result, Ok, Err, refl, subst, arith}
use Rattle.std.proofs.lemmas.List.Elements.{All-get_or}
use Rattle.std.specs.Prelude.{All, IfSome}
use Rattle.signalling_types.specs.declared.cause.Cause.{Cause}
use Rattle.settings.specs.Configuration.{TitleEntry}
use Rattle.settings.specs.declared.title_row.TitleRoute.{TitleRoute}
use Rattle.settings.specs.declared.title_row.TitleRoute.TheVariants as route
use Rattle.mtp3_codec.specs.Headings.{IsLabel, label_at}
use Rattle.sccp_codec.specs.declared.title.TitleKey.{TitleKey}
use Rattle.sccp_codec.specs.declared.address.Routing.{Routing}
use Rattle.sccp_codec.specs.declared.address.Routing.TheVariants.{Title, Ssn}
use Rattle.sccp_codec.specs.Messages.{AddressValue, IsAddressValue, AreOctets}
use Rattle.sccp_codec.specs.Titles.{TitleValue}
use Rattle.sccp_relay.specs.Led.{IsLed, IsSeenFrom}
use Rattle.sccp_relay.specs.Translation.{translation, or_refusal}
use Rattle.sccp_relay.specs.Changing.{title_after}
use Rattle.sccp_relay.specs.Relay.{row_of_title, led, led_with, translated, from_point, ssn_by}
use Rattle.sccp_relay.specs.Ways.{IsRow, IsRoute}
use Rattle.sccp_relay.proofs.LongestRow.{is_translation-longest}
use Rattle.sccp_relay.proofs.ReadTitles.{HasTitle, has-title}

-- ---- addresses

pub record Translates (row : TitleEntry) (a b : AddressValue) : Type 0 where
  pub title : List ℕ
  pub after : title_after row.change a ≡ Ok title
  pub same : led row a title ≡ b

translates-if : (row : TitleEntry) (a b : AddressValue) (title : Result (List ℕ) Cause) → title_after row.change a ≡ title → led_with row a title ≡ Ok b → Translates row a b
translates-if row a b (Err cause) t e = absurd cc
translates-if row a b (Ok title) t e = record { title = title; after = t; same = cc }

pub translates : (row : TitleEntry) (a b : AddressValue) → translated row a ≡ Ok b → Translates row a b
translates row a b e = translates-if row a b (title_after row.change a) refl e

led-is : (row : TitleEntry) (a : AddressValue) (title : List ℕ) → HasTitle row.change a (led row a title) → IsLed row a (led row a title)
led-is row a title h = record {
  kept = h.kept;
  changed = h.changed;
  national = refl;
  title_indicator = refl;
  point = refl;
  by_number = λ ssn e. rw e (refl, refl);
  by_title = λ ssn e. rw e (refl, refl);
  by_title_alone = λ e. rw e (refl, refl);
}

pub translated-led : (row : TitleEntry) (a b : AddressValue) → IsRow row → AreOctets a.title → translated row a ≡ Ok b → IsLed row a b
translated-led row a b is octets e =
    let t = translates row a b e in
    subst (IsLed row a) t.same (led-is row a t.title (has-title row.change a (led row a t.title) is.change octets refl refl t.after))

seen_from : (sender : ℕ) (national : Bool) (routing : Routing) (point ssn : Option ℕ) (indicator : ℕ) (title : List ℕ)
    → IsSeenFrom sender (record { national = national; routing = routing; point = point; ssn = ssn; title_indicator = indicator; title = title })
    (from_point sender (record { national = national; routing = routing; point = point; ssn = ssn; title_indicator = indicator; title = title }))
seen_from sender national Title None ssn indicator title = record {
  kept = record { national = refl; title_indicator = refl; title = refl };
  routing = refl;
  ssn = refl;
  own = λ point e. e;
  sender = λ e. absurd cc;
  none = λ e f. refl;
}
seen_from sender national Title (Some point) ssn indicator title = record {
  kept = record { national = refl; title_indicator = refl; title = refl };
  routing = refl;
  ssn = refl;
  own = λ point e. e;
  sender = λ e. absurd cc;
  none = λ e f. f;
}
seen_from sender national Ssn None ssn indicator title = record {
  kept = record { national = refl; title_indicator = refl; title = refl };
  routing = refl;
  ssn = refl;
  own = λ point e. absurd cc;
  sender = λ e f. refl;
  none = λ e. absurd cc;
}
seen_from sender national Ssn (Some point) ssn indicator title = record {
  kept = record { national = refl; title_indicator = refl; title = refl };
  routing = refl;
  ssn = refl;
  own = λ point e. e;
  sender = λ e f. absurd cc;
  none = λ e. absurd cc;
}

pub seen_from-of : (sender : ℕ) (a : AddressValue) → IsSeenFrom sender a (from_point sender a)
seen_from-of sender a = seen_from sender a.national a.routing a.point a.ssn a.title_indicator a.title

-- ---- in their ranges

ssn-fits : (row : TitleRoute) (ssn : Option ℕ) → IsRoute row → IfSome ssn (λ s. s < 2 ^ 8) → IfSome (ssn_by row ssn) (λ s. s < 2 ^ 8)
ssn-fits (route.Title None) ssn h f = f
ssn-fits row ssn h f = h.1

pub translated-fits : (row : TitleEntry) (a b : AddressValue) → IsRow row → IsAddressValue a → translated row a ≡ Ok b → IsAddressValue b
translated-fits row a b r h e =
    subst IsAddressValue (translates row a b e).same (record { title_indicator = h.title_indicator; point = tt; ssn = ssn-fits row.route a.ssn r.route h.ssn })

pub cond-fits : (b : Bool) (sender : ℕ) (a : AddressValue) → sender < 2 ^ 14 → IsAddressValue a → IsAddressValue (cond b (record a { point = Some sender }) a)
cond-fits true sender a s h = record { title_indicator = h.title_indicator; point = s; ssn = h.ssn }
cond-fits false sender a s h = h

row-found : (rows : List TitleEntry) (key : TitleKey) (digits : List ℕ) (found : Option TitleEntry) (row : TitleEntry) (cause : Cause) → or_refusal found cause ≡ Ok row → found ≡ Some row
row-found rows key digits None row cause e = absurd cc
row-found rows key digits (Some other) row cause e = cc

translation-row : (rows : List TitleEntry) (key : TitleKey) (digits : List ℕ) (row : TitleEntry) → All IsRow rows → translation rows key digits ≡ Ok row → IsRow row
translation-row rows key digits row all e =
    let t = is_translation-longest rows key digits row (row-found rows key digits _ row _ e) in
    subst IsRow t.among.2 (All-get_or IsRow rows t.among.0 row t.among.1 all)

pub title-row : (rows : List TitleEntry) (title : Result TitleValue Cause) (row : TitleEntry) → All IsRow rows → row_of_title rows title ≡ Ok row → IsRow row
title-row rows (Err cause) row all e = absurd cc
title-row rows (Ok title) row all e = translation-row rows title.key _ row all e

pub label-fits : (sif : List ℕ) → IsLabel (label_at sif)
label-fits sif = record { dpc = omega arith; opc = omega arith; sls = omega arith }
