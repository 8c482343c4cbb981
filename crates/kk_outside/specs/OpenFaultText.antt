-- What a fault of opening says of itself.
use Rattle.std.specs.Prelude.{ℕ, List, codes}
use Rattle.kk_outside.specs.declared.open_fault.OpenFault.{OpenFault}
use Rattle.kk_outside.specs.declared.open_fault.OpenFault.TheVariants.{Alloc, Cannot}

abbrev pub open_fault_text : OpenFault → List ℕ
open_fault_text Alloc = codes "the system has no memory for a socket"
open_fault_text Cannot = codes "the system refused the address or the socket"
