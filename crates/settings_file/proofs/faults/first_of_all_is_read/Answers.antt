use Rattle.settings_file.proofs.FirstOfAll.{none-fault, none-read, first-found, first-read}
use Rattle.settings_file.proofs.faults.first_of_all_is_read.Goals as goal

pub returns-clause-none : goal.returns-clause-none
returns-clause-none c text t parsed fourth = (none-fault text t parsed fourth, none-read text t parsed fourth)

pub returns-clause-first : goal.returns-clause-first
returns-clause-first c text t fault parsed fourth = (first-found text t parsed fourth fault, first-read text t parsed fourth fault)
