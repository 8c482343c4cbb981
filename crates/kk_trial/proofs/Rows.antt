-- The rows of a generation, as they come out of the channel.
use Rattle.std.proofs.Common.{◌≡◌, ℕ, ◌+◌, ◌-◌, ◌^◌, ◌<◌, List, length, ◌∙◌, arith}
use Rattle.std.specs.Prelude.{All}
use Rattle.kk_rows.proofs.Dimensions.{dimension-same_span}
use Rattle.kk_rows.proofs.Spans.{same_span_members}
use Rattle.kk_code.specs.Codeword.{IsCode, width}
use Rattle.kk_code.specs.Decoding.{Decodes}
use Rattle.kk_code.specs.Ticket.{TicketFields}
use Rattle.kk_code.specs.TicketText.{IsTicket}
use Rattle.kk_code.proofs.Enumeration.{answer-of_message}
use Rattle.kk_decode.proofs.Answering.{answer-same_span}
use Rattle.kk_decode.proofs.Losses.{distance_is_the_loss}
use Rattle.kk_assemble.specs.FileBits.{cut}
use Rattle.kk_assemble.proofs.Cuts.{cut_is_message}
use Rattle.kk_channel.proofs.Losses.{length-channel_rows, channel_rows-below, loss_is_exact}
use Rattle.kk_trial.specs.declared.operator_channel.OperatorChannel.{OperatorChannel}
use Rattle.kk_trial.specs.Trial.{made_file, words_before, received_rows}
use Rattle.kk_trial.specs.Laws.{IsPossible, HaveTheLoss, ReceivedRowsHaveTheLoss, TrialDecodesWithinRadius}

-- the parameters of a ticket are those of a code
ticket_code : (t : TicketFields) → IsTicket t → IsCode t.code
ticket_code t is = record {
  field = record {
    modulus = record { at_least_one = omega (arith, is.code.m_low); low_below = is.code.low };
    irreducible = is.irreducible;
  };
  l_high = is.code.l_high;
  k_high = is.code.k_high;
}

module _ (t : TicketFields) (channel : OperatorChannel) (word : ℕ → ℕ) (g : ℕ) where
  abbrev message : List ℕ
  message = cut t.code (made_file t.length word) g

  abbrev next : ℕ → ℕ
  next i = word (words_before t channel g + i)

  pub length-received_rows : IsTicket t → IsPossible t channel → length (received_rows t channel word g) ≡ t.code.l - channel.erase + channel.inject
  length-received_rows ticket possible =
      length-channel_rows t.code ticket.code.low message next channel.erase channel.inject possible.erase possible.inject

  pub received_rows-below : IsTicket t → IsPossible t channel → All (λ r. r < 2 ^ width t.code) (received_rows t channel word g)
  received_rows-below ticket possible =
      channel_rows-below t.code ticket.code.low message next channel.erase channel.inject possible.erase possible.inject ticket.code

  have_the_loss : IsTicket t → IsPossible t channel → HaveTheLoss t channel message (received_rows t channel word g)
  have_the_loss ticket possible =
      let rows = received_rows t channel word g in
      let lost = loss_is_exact t.code (ticket_code t ticket) message next channel.erase channel.inject possible.erase possible.inject in
      let count = length-received_rows ticket possible in
      record {
        lost = lost;
        count = count;
        rank = λ others same. dimension-same_span others rows (same_span_members others rows same) ∙ lost.independent ∙ count;
      }

pub received_rows_have_the_loss : ReceivedRowsHaveTheLoss
received_rows_have_the_loss = have_the_loss

pub trial_decodes_within_radius : TrialDecodesWithinRadius
trial_decodes_within_radius t channel word g rows ticket possible few same =
    let code = ticket_code t ticket in
    let u = message t channel word g in
    let received = received_rows t channel word g in
    let lost = (have_the_loss t channel word g ticket possible).lost in
    let decodes : Decodes t.code received u = record {
      message = cut_is_message t.code (made_file t.length word) g;
      within = omega (arith, few, distance_is_the_loss t.code code received u, lost.erased_are, lost.injected_are);
    } in
    answer-same_span t.code rows received (same_span_members rows received same) ∙ answer-of_message t.code code received u decodes
