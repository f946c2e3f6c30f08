use Rattle.served_link.proofs.Basics.{kept, whole}
use Rattle.served_link.proofs.TakenFrames.{go-behind}
use Rattle.served_link.proofs.laws.taken_frames_go_behind.Goals as goal

pub returns-clause-whole : goal.returns-clause-whole
returns-clause-whole g c = λ link pending next s t w x takes. go-behind whole link takes.frames pending next s t takes.each

pub returns-clause-kept : goal.returns-clause-kept
returns-clause-kept g c = λ link pending next s t w x takes. go-behind kept link takes.frames pending next s t takes.each
