-- What a fault of words says of itself.
use Rattle.std.specs.Prelude.{ℕ, List, codes}
use Rattle.kk_forms.specs.declared.fault.WordsFault.{WordsFault}
use Rattle.kk_forms.specs.declared.fault.WordsFault.TheVariants.{Words, Alloc}

abbrev pub fault_text : WordsFault → List ℕ
fault_text Words = codes "the words are not of a command's form"
fault_text Alloc = codes "out of memory"
