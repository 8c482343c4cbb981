use Rattle.std.proofs.Common.{◌≡◌, ℕ, List, ap, ◌∙◌, arith}
use Rattle.kk_rows.specs.Rows.{numbers}
use Rattle.kk_code.specs.Decoding.{Decodes, answer}
use Rattle.kk_code.proofs.Enumeration.{answer-of_message}
use Rattle.kk_decode.proofs.Losses.{distance_is_the_loss}
use Rattle.kk_test_motion.proofs.channel.received.Goals as goal

pub pass_through-passed-requires : goal.pass_through-passed-requires
pass_through-passed-requires g c =
    let code = c.l.ensures.code in
    record {
      codeword = record { message = c.args.u.now; is_message = c.requires; is_codeword = c.encode-codeword.ensures.rows };
      erase = omega arith;
      inject = omega (arith, code.l_high);
    }

pub returns : goal.returns
returns g c =
    let p = c.args.code.now in
    let u = c.args.u.now in
    let code = c.l.ensures.code in
    let passed = c.pass_through-passed in
    let is = c.encode-codeword.ensures.rows in
    let rows : numbers c.as_slice.result.now ≡ passed.result = c.as_slice.ensures.rows in
    let decodes : Decodes p passed.result u = record {
      message = c.requires;
      within = omega (arith, distance_is_the_loss p code passed.result u, passed.ensures.erased u is, passed.ensures.injected u is);
    } in
    c.decode.ensures.answer ∙ ap (λ (l : List ℕ). answer p l) rows ∙ answer-of_message p code passed.result u decodes
