-- A row of one space with what another leaves of it.
use Rattle.std.specs.Prelude.{bit_xor, nat_lt, if◌then◌else◌}
use Rattle.kk_rows.specs.declared.traced.Traced.{Traced}

-- the sum of two, of the rows and of what is left of them
abbrev pub sum_of_traces : Traced → Traced → Traced
sum_of_traces t s =
    record { source = record { 0 = bit_xor t.source.0 s.source.0 }; image = record { 0 = bit_xor t.image.0 s.image.0 } }

-- the sum with the lead where that makes the image less
abbrev pub cleared_trace : Traced → Traced → Traced
cleared_trace t lead =
    if nat_lt (bit_xor t.image.0 lead.image.0) t.image.0 then sum_of_traces t lead else t
