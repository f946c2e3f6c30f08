use Rattle.sccp_relay.proofs.Basics.{true, false, ap, subst, sym, ◌∙◌, arith, length-take-le, list_any, IsTranslation, has_key}
use Rattle.sccp_relay.proofs.OneRow.{translation-is_translation}
use Rattle.sccp_relay.proofs.Translating.{walked, translated, by-place, refused_by}
use Rattle.sccp_relay.proofs.translations.Translations.translate.Goals as goal

pub slice_bounds-row_led-end : goal.slice_bounds-row_led-end
slice_bounds-row_led-end c =
    let t = translated c.self.inside.rows.items c.args.key c.args.digits.now c.in-Some.count c.in-Some.lead c.self.invariant.rows
    (walked _ c.self.inside.rows.items c.args.key _ c.args.digits.now _ c.self.invariant.leads c.key_digits.ensures c.longest_behind.ensures ∙ c.in-Some.is) in
    sym (length-take-le c.in-Some.count c.args.digits.now t.within)

pub row_led-requires : goal.row_led-requires
row_led-requires c =
    let t = translated c.self.inside.rows.items c.args.key c.args.digits.now c.in-Some.count c.in-Some.lead c.self.invariant.rows
    (walked _ c.self.inside.rows.items c.args.key _ c.args.digits.now _ c.self.invariant.leads c.key_digits.ensures c.longest_behind.ensures ∙ c.in-Some.is) in
    t.ranges

pub slice_bounds-row_at-end : goal.slice_bounds-row_at-end
slice_bounds-row_at-end c =
    let t = translated c.self.inside.rows.items c.args.key c.args.digits.now c.in-Some.count c.in-Some.lead c.self.invariant.rows
    (walked _ c.self.inside.rows.items c.args.key _ c.args.digits.now _ c.self.invariant.leads c.key_digits.ensures c.longest_behind.ensures ∙ c.in-Some.is) in
    sym (length-take-le c.in-Some.count c.args.digits.now t.within)

pub returns-in-Some-clause-exact : goal.returns-in-Some-clause-exact
returns-in-Some-clause-exact c =
    let t = translated c.self.inside.rows.items c.args.key c.args.digits.now c.in-Some.count c.in-Some.lead c.self.invariant.rows
    (walked _ c.self.inside.rows.items c.args.key _ c.args.digits.now _ c.self.invariant.leads c.key_digits.ensures c.longest_behind.ensures ∙ c.in-Some.is) in
    let is : IsTranslation c.self.inside.rows.items c.args.key c.args.digits.now c.row_led.result =
    subst (IsTranslation c.self.inside.rows.items c.args.key c.args.digits.now) (sym c.row_led.ensures) (t.row (omega (arith, c.if-lead-lt-MORE.true))) in
    rw (← c.self.view_is) (sym (translation-is_translation c.self.inside.rows.items c.args.key c.args.digits.now c.row_led.result c.self.invariant.ordered is))

pub returns-in-Some-clause-longest : goal.returns-in-Some-clause-longest
returns-in-Some-clause-longest c =
    let t = translated c.self.inside.rows.items c.args.key c.args.digits.now c.in-Some.count c.in-Some.lead c.self.invariant.rows
    (walked _ c.self.inside.rows.items c.args.key _ c.args.digits.now _ c.self.invariant.leads c.key_digits.ensures c.longest_behind.ensures ∙ c.in-Some.is) in
    let is : IsTranslation c.self.inside.rows.items c.args.key c.args.digits.now c.row_led.result =
    subst (IsTranslation c.self.inside.rows.items c.args.key c.args.digits.now) (sym c.row_led.ensures) (t.row (omega (arith, c.if-lead-lt-MORE.true))) in
    rw (← c.self.view_is) is

pub returns-in-Some-2-clause-exact : goal.returns-in-Some-2-clause-exact
returns-in-Some-2-clause-exact c =
    let t = translated c.self.inside.rows.items c.args.key c.args.digits.now c.in-Some.count c.in-Some.lead c.self.invariant.rows
    (walked _ c.self.inside.rows.items c.args.key _ c.args.digits.now _ c.self.invariant.leads c.key_digits.ensures c.longest_behind.ensures ∙ c.in-Some.is) in
    let by = by-place c.self.inside.rows.items c.deref.result.now c.args.key c.args.digits.now c.in-Some.count c.in-Some.lead c.row_at.result t c.self.invariant.ordered
    c.deref.ensures.value c.row_at.ensures.among c.row_at.ensures.place c.row_at.ensures.free in
    rw (← c.self.view_is) by.0

pub returns-in-Some-2-clause-longest : goal.returns-in-Some-2-clause-longest
returns-in-Some-2-clause-longest c =
    let t = translated c.self.inside.rows.items c.args.key c.args.digits.now c.in-Some.count c.in-Some.lead c.self.invariant.rows
    (walked _ c.self.inside.rows.items c.args.key _ c.args.digits.now _ c.self.invariant.leads c.key_digits.ensures c.longest_behind.ensures ∙ c.in-Some.is) in
    let by = by-place c.self.inside.rows.items c.deref.result.now c.args.key c.args.digits.now c.in-Some.count c.in-Some.lead c.row_at.result t c.self.invariant.ordered
    c.deref.ensures.value c.row_at.ensures.among c.row_at.ensures.place c.row_at.ensures.free in
    rw (← c.self.view_is) by.1

pub returns-in-None-clause-exact : goal.returns-in-None-clause-exact
returns-in-None-clause-exact c =
    rw (← c.self.view_is)
    (sym (refused_by c.self.inside.rows.items c.args.key c.args.digits.now true
    (walked _ c.self.inside.rows.items c.args.key _ c.args.digits.now _ c.self.invariant.leads c.key_digits.ensures c.longest_behind.ensures ∙ c.in-None.is)
    (sym (ap (list_any (has_key c.args.key)) c.deref-in-None-1.ensures.value) ∙ sym c.has_key.ensures ∙ c.if-has_key.true)))

pub returns-in-None-2-clause-exact : goal.returns-in-None-2-clause-exact
returns-in-None-2-clause-exact c =
    rw (← c.self.view_is)
    (sym (refused_by c.self.inside.rows.items c.args.key c.args.digits.now false
    (walked _ c.self.inside.rows.items c.args.key _ c.args.digits.now _ c.self.invariant.leads c.key_digits.ensures c.longest_behind.ensures ∙ c.in-None.is)
    (sym (ap (list_any (has_key c.args.key)) c.deref-in-None-1.ensures.value) ∙ sym c.has_key.ensures ∙ c.if-has_key.false)))
