-- What a limit that parameters break says of itself.
use Rattle.std.specs.Prelude.{ℕ, List, codes}
use Rattle.kk_code.specs.declared.bad_params.BadParams.{BadParams}
use Rattle.kk_code.specs.declared.bad_params.BadParams.TheVariants.{M, L, K}

abbrev pub bad_params_text : BadParams → List ℕ
bad_params_text M = codes "the degree of the field is not 2 to 64"
bad_params_text L = codes "the number of evaluation points is not 1 to the degree of the field"
bad_params_text K = codes "the number of symbols is not 1 to the number of evaluation points"
