-- `server::judge::arrival` meets its contract.
use Rattle.std.proofs.Common.{rules, ap, sym, ◌∙◌}
use Rattle.server.specs.judge.Parts.{with_header}
use Rattle.server.proofs.judge.EntryLaws.{entry_refused, read_refused, read_accepted}
use Rattle.server.proofs.judge.arrival.Goals as goal

pub returns-in_err-entry : goal.returns-in_err-entry
returns-in_err-entry c =
    let a = c.args in
    let refused = entry_refused a.s a.slots a.out a.d.now _ c.entry.ensures _ c.in_err-entry.was in
    search rules

pub returns-in_err-read : goal.returns-in_err-read
returns-in_err-read c =
    let a = c.args in
    let refused = read_refused a.s a.slots a.out a.d.now _ c.entry.ensures c.in_ok-entry.was _ c.in_err-read.ensures in
    search rules

pub returns-in_err-row : goal.returns-in_err-row
returns-in_err-row c =
    let a = c.args in
    let refused =
    ap (with_header c.in_ok-read.read.header) (sym c.in_err-row.was)
    ∙ read_accepted a.s a.slots a.out a.d.now _ c.entry.ensures c.in_ok-entry.was _ _ _ c.in_ok-read.ensures c.body.ensures c.own_activity.ensures in
    search rules

pub returns : goal.returns
returns c =
    let a = c.args in
    ap (with_header c.in_ok-read.read.header) (sym c.in_ok-row.was)
    ∙ read_accepted a.s a.slots a.out a.d.now _ c.entry.ensures c.in_ok-entry.was _ _ _ c.in_ok-read.ensures c.body.ensures c.own_activity.ensures
