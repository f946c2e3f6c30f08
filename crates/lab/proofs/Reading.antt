-- How much of a script was read.
use Rattle.std.proofs.Common.{◌≤◌, ◌+◌, ℕ, List, [], ◌++◌, length, Option, Result, Ok, Err, arith, length-append}
use Rattle.std.specs.Prelude.{OnOk}
use Rattle.std.specs.Io.KnownBytes.{Consumes}
use Rattle.script.specs.Faults.{EndsAtLine}
use Rattle.script.specs.declared.fault.TheConstants.{READS}
use Rattle.script.specs.declared.fault.ScriptFault.{ScriptFault}
use Rattle.script.specs.declared.fault.ScriptFault.TheVariants.{Read, TooManyReads, NoMemory}
use Rattle.script.proofs.Running.{consumes-consumes, consumes-nothing}
use Rattle.lab.specs.Script.{ReadsAtLeast, ReadsOn, EndsInScript}

pub reads-nothing : (left : Option (List ℕ)) → ReadsAtLeast 0 left left
reads-nothing left = record { octets = []; many = omega arith; consumed = consumes-nothing left }

pub reads-more : (least most : ℕ) (a b c : Option (List ℕ)) (piece : List ℕ) → most ≤ least + length piece → ReadsAtLeast least a b → Consumes b c piece
    → ReadsAtLeast most a c
reads-more least most a b c piece enough r consumed = record {
  octets = r.octets ++ piece;
  many = let both = length-append r.octets piece in let some = r.many in omega (arith, enough, both, some);
  consumed = consumes-consumes a b c r.octets piece r.consumed consumed;
}

pub reads-all : (least : ℕ) (a b : Option (List ℕ)) → READS ≤ least → ReadsAtLeast least a b → ReadsAtLeast READS a b
reads-all least a b all r = record { octets = r.octets; many = let some = r.many in omega (arith, all, some); consumed = r.consumed }

-- a line that ended the script
pub line-reads-on : (result : Result Unit ScriptFault) (a b : Option (List ℕ)) → EndsAtLine result → ReadsOn result a b
line-reads-on (Err Read) a b h = absurd h
line-reads-on (Err TooManyReads) a b h = absurd h
line-reads-on (Err NoMemory) a b h = absurd h
line-reads-on result a b h = tt

pub when-ok : {A E P : Type 0} (result : Result A E) → P → OnOk result P
when-ok (Ok x) h = h
when-ok (Err e) h = tt

-- ---- a script that was begun

pub line-in-script : (result : Result Unit ScriptFault) → EndsAtLine result → EndsInScript result
line-in-script (Err Read) h = absurd h
line-in-script (Err TooManyReads) h = absurd h
line-in-script (Err NoMemory) h = absurd h
line-in-script result h = tt
