-- Files of one and two bytes in messages worked out by hand.
use Rattle.std.specs.Prelude.{◌≡◌, refl, [], ◌∷◌}
use Rattle.kk_code.specs.Codeword.{Parameters}
use Rattle.kk_code.specs.Ticket.{one_byte}
use Rattle.kk_assemble.specs.FileBits.{number_from, cut, joined}

-- the one byte A0 in messages of one symbol of three bits
pub first_message : cut one_byte.code (160 ∷ []) 0 ≡ 5 ∷ []
unfolding number_from
first_message = refl

-- after the end of the file the bits are 0
pub last_message : cut one_byte.code (160 ∷ []) 2 ≡ 0 ∷ []
unfolding number_from
last_message = refl

pub the_file_again : joined one_byte.code 1 ((5 ∷ []) ∷ (0 ∷ []) ∷ (0 ∷ []) ∷ []) ≡ 160 ∷ []
unfolding number_from
the_file_again = refl

-- two symbols of five bits a message, so that message 1 begins in the second byte
abbrev pub ten_bits : Parameters
ten_bits = record { field = record { degree = 5; low = 5 }; l = 2; k = 2 }

-- the two bytes A5 and C3: 10100 10111 | 00001 1 and four zeros
pub first_ten_bits : cut ten_bits (165 ∷ 195 ∷ []) 0 ≡ 20 ∷ 23 ∷ []
unfolding number_from
first_ten_bits = refl

pub last_ten_bits : cut ten_bits (165 ∷ 195 ∷ []) 1 ≡ 1 ∷ 16 ∷ []
unfolding number_from
last_ten_bits = refl

-- bits after the end of the file are dropped
pub two_bytes_again : joined ten_bits 2 ((20 ∷ 23 ∷ []) ∷ (1 ∷ 31 ∷ []) ∷ []) ≡ 165 ∷ 195 ∷ []
unfolding number_from
two_bytes_again = refl
