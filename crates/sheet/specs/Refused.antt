-- Why a sheet is refused at a fault.
use Rattle.refusal.specs.declared.Refusal.{Refusal}
use Rattle.refusal.specs.declared.Refusal.TheVariants.{SheetEnds, UnknownCommand}
use Rattle.sheet.specs.declared.Fault.{Fault}
use Rattle.sheet.specs.declared.Fault.TheVariants.{Cut, Unknown}

abbrev pub refusal_of : Fault → Refusal
refusal_of Cut = SheetEnds
refusal_of Unknown = UnknownCommand
