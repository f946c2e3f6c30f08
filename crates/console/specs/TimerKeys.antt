-- The timers of a node by their keys, in the order in which they are shown.
use Rattle.std.specs.Prelude.{ℕ, List, [], ◌∷◌, codes, Option, Some}
use Rattle.std.specs.Option.{option_map}
use Rattle.settings.specs.declared.timer_ticks.TimerTicks.{TimerTicks}

-- a timer: its key, and how many ticks it runs, if the settings have it
pub record KeyedTimer : Type 0 where
  pub key : List ℕ
  pub ticks : Option ℕ

abbrev pub keyed : (key : List ℕ) → Option ℕ → KeyedTimer
keyed key ticks = record { key = key; ticks = ticks }

-- those of links (Q.703), of the network (Q.704), of link tests (Q.707), and that of subsystem tests (Q.714)
abbrev pub keyed_timers : TimerTicks → List KeyedTimer
keyed_timers t =
    keyed (codes "l1") (Some t.l1) ∷ keyed (codes "l2") (Some t.l2) ∷ keyed (codes "l3") (Some t.l3)
    ∷ keyed (codes "l4") (Some t.l4) ∷ keyed (codes "l4e") t.l4e ∷ keyed (codes "l6") (Some t.l6)
    ∷ keyed (codes "l7") (Some t.l7) ∷ keyed (codes "t1") (Some t.t1) ∷ keyed (codes "t2") (Some t.t2)
    ∷ keyed (codes "t2_bar") t.t2_bar ∷ keyed (codes "t3") (Some t.t3) ∷ keyed (codes "t4") (Some t.t4)
    ∷ keyed (codes "t6") (Some t.t6) ∷ keyed (codes "t8") (Some t.t8) ∷ keyed (codes "t10") (Some t.t10)
    ∷ keyed (codes "slt1") (option_map (λ tests. tests.slt1) t.link_tests)
    ∷ keyed (codes "slt2") (option_map (λ tests. tests.slt2) t.link_tests) ∷ keyed (codes "sst") t.sst ∷ []
