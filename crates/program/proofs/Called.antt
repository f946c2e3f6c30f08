-- What a call came to.
use Rattle.std.proofs.Common.{◌≡◌, ◌∙◌, ℕ, List, [], Bool, true, false, Option, Some, refl, sym, ap}
use Rattle.std.specs.Prelude.{Result, Ok, Err, String, if◌then◌else◌}
use Rattle.std.specs.Global.{Global}
use Rattle.script.specs.Streams.{Output}
use Rattle.program.specs.ConsoleAnswers.{Heard, nothing, read, verdict}
use Rattle.program.specs.ConsoleCalls.{Comes, IsJudged, Calls, is_write_failed}
use Rattle.program.specs.ConsoleLines.{Sending, begun, owes, IsOwed}
use Rattle.program.specs.declared.console_client.answers.Verdict.{Verdict}
use Rattle.program.specs.declared.console_client.answers.Verdict.TheVariants.{Done, Refused}
use Rattle.program.specs.declared.console_client.fault.CallFault.{CallFault}
use Rattle.program.specs.declared.console_client.fault.CallFault.TheVariants.{Lost}
use Rattle.program.proofs.Coming.{none-comes}
use Rattle.program.proofs.Owing.{owed-all}

-- before anything came
pub calls-nothing : (words : List (String Global)) (known : Option (List ℕ)) (result : Result Verdict CallFault) (fault : CallFault) (w : Output)
    → result ≡ Err fault → is_write_failed result ≡ false → Calls words known result w w
calls-nothing words known result fault w e quiet = record {
  came = [];
  prints = rw quiet (none-comes nothing w).prints;
  judged = rw e tt;
}

-- before the connection ended
pub calls-failed : (words : List (String Global)) (known : Option (List ℕ)) (result : Result Verdict CallFault) (fault : CallFault) (h0 h1 : Heard) (old new : Output)
    → result ≡ Err fault → (came : List ℕ) × Comes (is_write_failed {A = Bool} (Err fault)) came h0 h1 old new → Calls words known result old new
calls-failed words known result fault h0 h1 old new e came = record {
  came = came.0;
  prints = rw e came.1.prints;
  judged = rw e tt;
}

quiet-of : (is_over is_refused : Bool) → is_write_failed {A = Verdict} (if is_over then (if is_refused then Ok Refused else Ok Done) else Err Lost) ≡ false
quiet-of true true = refl
quiet-of true false = refl
quiet-of false is_refused = refl

judged-by : (asked : Option ℕ) (came : List ℕ) (is_whole : Bool) (due : ℕ) (result : Result Verdict CallFault) → verdict is_whole due (read came nothing) ≡ result
    → (is_whole ≡ true → (most : ℕ) → asked ≡ Some most → due ≡ most) → IsJudged asked came result
judged-by asked came is_whole due (Ok told) says all = record { is_whole = is_whole; due = due; says = says; all = all }
judged-by asked came is_whole due (Err fault) says all = tt

-- once it ended
pub calls-judged : (words : List (String Global)) (known known_new : Option (List ℕ)) (is_whole : Bool) (due : ℕ) (h0 h1 : Heard) (result : Result Verdict CallFault)
    (s s_new : Sending) (old new : Output) → result ≡ verdict is_whole due h1 → (came : List ℕ) × Comes false came h0 h1 old new → h0 ≡ nothing → s ≡ begun words
    → IsOwed known known_new s s_new → (is_whole ≡ true → s_new.has_ended ≡ true) → due ≡ s_new.lines.due → Calls words known result old new
calls-judged words known known_new is_whole due h0 h1 result s s_new old new e came first start owed ended to = record {
  came = came.0;
  prints = rw (e, quiet-of _ h1.is_refused) came.1.prints;
  judged = judged-by (owes known (begun words)) came.0 is_whole due result
      (ap (verdict is_whole due) (ap (read came.0) (sym first) ∙ sym came.1.hears) ∙ sym e)
      (λ w most asked. to ∙ owed-all known_new s_new (ended w) most (owed most (rw start asked)));
}
