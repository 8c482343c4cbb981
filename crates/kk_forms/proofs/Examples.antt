-- The definitions at worked values.
use Rattle.std.proofs.Common.{◌≡◌, true, false, refl, [], ◌∷◌, Some, None, codes}
use Rattle.clap.specs.Takes.{walk_passes}
use Rattle.clap.specs.Walk.{walked}
use Rattle.kk_forms.specs.Form.{Word, Words, TextOption, NumberOption, NumberWord, Form, is_sound}
use Rattle.kk_forms.specs.Request.{is_of_form, matches_by, request_by}

-- `send FILE COUNT --key TEXT`, with `--rate N`, which is 7 where it is not given
send : Form
send = record {
  name = codes "send";
  arguments = Word (codes "FILE") ∷ NumberWord (codes "count") ∷ TextOption (codes "key") ∷ NumberOption (codes "rate") (Some 7) ∷ [];
}

sound : is_sound send ≡ true
unfolding send
sound = refl

-- words that may be several come last
words_first : is_sound (record { name = codes "send"; arguments = Words (codes "FILE") ∷ Word (codes "TO") ∷ [] }) ≡ false
words_first = refl

-- a name is given once
name_twice : is_sound (record { name = codes "send"; arguments = Word (codes "key") ∷ TextOption (codes "key") ∷ [] }) ≡ false
name_twice = refl

given : request_by send (codes "send" ∷ codes "a" ∷ codes "--key" ∷ codes "k" ∷ codes "05" ∷ [])
    ≡ Some (record { texts = codes "a" ∷ []; options = (codes "key", codes "k") ∷ []; numbers = (codes "count", 5) ∷ (codes "rate", 7) ∷ [] })
unfolding send is_of_form matches_by walked walk_passes
given = refl

-- the required option is missing
missing : request_by send (codes "send" ∷ codes "a" ∷ codes "5" ∷ []) ≡ None
unfolding send is_of_form matches_by walked walk_passes
missing = refl

-- the first word is another
renamed : request_by send (codes "sent" ∷ codes "a" ∷ codes "5" ∷ codes "--key" ∷ codes "k" ∷ []) ≡ None
unfolding send is_of_form matches_by walked walk_passes
renamed = refl
