use Rattle.std.proofs.Common.{◌-◌, length, take, sym, ap, ◌∙◌, refl, arith}
use Rattle.kk_outside.specs.Change.{change}
use Rattle.kk_sender.proofs.Lengths.{IsRead-filled, FailsWithinLength-lost, wrong-told, wrong_is, right_is}
use Rattle.kk_sender.proofs.file.read_file.Goals as goal

pub returns-in_default-clause-failed_before : goal.returns-in_default-clause-failed_before
returns-in_default-clause-failed_before g c = λ _.
    let told = g.S.Source.told in
    FailsWithinLength-lost (length c.args.room.now - 1) c.fill.new.buf (change (told c.args.source.now) (told c.fill.new.source)) _ (omega (arith, c.fill.auto.buf, c.requires)) c.in_default.ensures.fills

pub returns-then-got-len-clause-whole : goal.returns-then-got-len-clause-whole
returns-then-got-len-clause-whole g c = λ _.
    let told = g.S.Source.told in
    let len = length c.args.room.now - 1 in
    let is = IsRead-filled len c.in-Ok.got c.fill.new.buf (change (told c.args.source.now) (told c.fill.new.source)) (omega (arith, c.fill.auto.buf, c.requires)) c.in-Ok.ensures.fills in
    (λ no. absurd (cc no), λ same. absurd (c.if-got-len.true (sym is.count ∙ same)))

pub returns-then-got-len-clause-wrong_length : goal.returns-then-got-len-clause-wrong_length
returns-then-got-len-clause-wrong_length g c = λ got more _.
    let told = g.S.Source.told in
    let len = length c.args.room.now - 1 in
    let is = IsRead-filled len c.in-Ok.got c.fill.new.buf (change (told c.args.source.now) (told c.fill.new.source)) (omega (arith, c.fill.auto.buf, c.requires)) c.in-Ok.ensures.fills in
    wrong_is len _ c.in-Ok.got _ (wrong-told len _ c.in-Ok.got _ is.count c.if-got-len.true refl) got more

pub returns-then-got-len-clause-read : goal.returns-then-got-len-clause-read
returns-then-got-len-clause-read g c = λ _.
    let told = g.S.Source.told in
    (IsRead-filled (length c.args.room.now - 1) c.in-Ok.got c.fill.new.buf (change (told c.args.source.now) (told c.fill.new.source)) (omega (arith, c.fill.auto.buf, c.requires)) c.in-Ok.ensures.fills).read

pub returns-then-got-len-clause-remainder : goal.returns-then-got-len-clause-remainder
returns-then-got-len-clause-remainder g c = λ _.
    let told = g.S.Source.told in
    (IsRead-filled (length c.args.room.now - 1) c.in-Ok.got c.fill.new.buf (change (told c.args.source.now) (told c.fill.new.source)) (omega (arith, c.fill.auto.buf, c.requires)) c.in-Ok.ensures.fills).left

pub returns-clause-whole : goal.returns-clause-whole
returns-clause-whole g c = λ _.
    let told = g.S.Source.told in
    let len = length c.args.room.now - 1 in
    let is = IsRead-filled len c.in-Ok.got c.fill.new.buf (change (told c.args.source.now) (told c.fill.new.source)) (omega (arith, c.fill.auto.buf, c.requires)) c.in-Ok.ensures.fills in
    (λ _. is.count ∙ c.if-got-len.false, λ _. refl)

pub returns-clause-wrong_length : goal.returns-clause-wrong_length
returns-clause-wrong_length g c = λ got more _.
    let told = g.S.Source.told in
    let len = length c.args.room.now - 1 in
    let is = IsRead-filled len c.in-Ok.got c.fill.new.buf (change (told c.args.source.now) (told c.fill.new.source)) (omega (arith, c.fill.auto.buf, c.requires)) c.in-Ok.ensures.fills in
    right_is len _ tt (is.count ∙ c.if-got-len.false) got more

pub returns-clause-file : goal.returns-clause-file
returns-clause-file g c =
    let told = g.S.Source.told in
    let len = length c.args.room.now - 1 in
    let is = IsRead-filled len c.in-Ok.got c.fill.new.buf (change (told c.args.source.now) (told c.fill.new.source)) (omega (arith, c.fill.auto.buf, c.requires)) c.in-Ok.ensures.fills in
    ap (λ n. take n c.fill.new.buf) (sym c.if-got-len.false) ∙ sym is.bytes

pub returns-clause-read : goal.returns-clause-read
returns-clause-read g c = λ _.
    let told = g.S.Source.told in
    (IsRead-filled (length c.args.room.now - 1) c.in-Ok.got c.fill.new.buf (change (told c.args.source.now) (told c.fill.new.source)) (omega (arith, c.fill.auto.buf, c.requires)) c.in-Ok.ensures.fills).read

pub returns-clause-remainder : goal.returns-clause-remainder
returns-clause-remainder g c = λ _.
    let told = g.S.Source.told in
    (IsRead-filled (length c.args.room.now - 1) c.in-Ok.got c.fill.new.buf (change (told c.args.source.now) (told c.fill.new.source)) (omega (arith, c.fill.auto.buf, c.requires)) c.in-Ok.ensures.fills).left
