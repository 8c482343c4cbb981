-- How the inserts of a history were answered.
use Rattle.std.specs.Prelude.{◌+◌, ◌≤◌, List, sum_by}
use Rattle.kk_machine.specs.declared.call.Entry.{Entry}
use Rattle.kk_machine.specs.Inserts.{tally, of_reply, inserts, innovative, redundant, late}
use Rattle.kk_table.specs.declared.answers.Inserted.{Inserted}
use Rattle.kk_table.specs.declared.answers.Inserted.TheVariants.{Innovative, Redundant, Late}
use Rattle.kk_workers.specs.declared.totals.Totals.{Totals}

-- how many inserts these calls have, and how many of their replies are of each kind
abbrev pub totals_in : List Entry → Totals
totals_in calls = record {
  inserts = tally inserts calls;
  innovative = tally (of_reply innovative) calls;
  redundant = tally (of_reply redundant) calls;
  late = tally (of_reply late) calls;
}

-- the totals of no insert
abbrev pub no_totals : Totals
no_totals = record { inserts = 0; innovative = 0; redundant = 0; late = 0 }

-- the totals with the answer to one insert more
abbrev pub counted : Inserted → Totals → Totals
counted (Innovative rank) t = record { inserts = t.inserts + 1; innovative = t.innovative + 1; redundant = t.redundant; late = t.late }
counted Redundant t = record { inserts = t.inserts + 1; innovative = t.innovative; redundant = t.redundant + 1; late = t.late }
counted Late t = record { inserts = t.inserts + 1; innovative = t.innovative; redundant = t.redundant; late = t.late + 1 }

-- the totals of what both totals count
abbrev pub both : Totals → Totals → Totals
both a b = record {
  inserts = a.inserts + b.inserts;
  innovative = a.innovative + b.innovative;
  redundant = a.redundant + b.redundant;
  late = a.late + b.late;
}

-- the totals of what all these totals count
abbrev pub sum_of_totals : List Totals → Totals
sum_of_totals ts = record {
  inserts = sum_by (λ t. t.inserts) ts;
  innovative = sum_by (λ t. t.innovative) ts;
  redundant = sum_by (λ t. t.redundant) ts;
  late = sum_by (λ t. t.late) ts;
}

-- no kind of answer is counted more often than there are inserts
pub record AreWithin (t : Totals) : Type 0 where
  pub innovative : t.innovative ≤ t.inserts
  pub redundant : t.redundant ≤ t.inserts
  pub late : t.late ≤ t.inserts
