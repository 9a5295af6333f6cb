use Rattle.std.proofs.Common.{◌≡◌, Some, None}
use Rattle.std.specs.List.{position}
use Rattle.chi_trace.specs.Words.{is_blank}
use Rattle.chi_trace.proofs.WordLemmas.{cut_text, whole_text}
use Rattle.chi_trace.proofs.words.cut.Goals as goal

pub returns-in-Some-clause-text : goal.returns-in-Some-clause-text
returns-in-Some-clause-text c =
    let is = c.in-Some.is in
    let end = c.requires.end in
    let at : Some c.in-Some.end ≡ position is_blank c.args.text.now = cc in
    (cut_text c.args.text.now c.in-Some.end c.requires.first at).0

pub returns-in-Some-clause-rest : goal.returns-in-Some-clause-rest
returns-in-Some-clause-rest c =
    let is = c.in-Some.is in
    let end = c.requires.end in
    let at : Some c.in-Some.end ≡ position is_blank c.args.text.now = cc in
    (cut_text c.args.text.now c.in-Some.end c.requires.first at).1

pub returns-in-None-clause-text : goal.returns-in-None-clause-text
returns-in-None-clause-text c =
    let is = c.in-None.is in
    let end = c.requires.end in
    let at : None ≡ position is_blank c.args.text.now = cc in
    (whole_text c.args.text.now c.requires.first at).0

pub returns-in-None-clause-rest : goal.returns-in-None-clause-rest
returns-in-None-clause-rest c =
    let is = c.in-None.is in
    let end = c.requires.end in
    let at : None ≡ position is_blank c.args.text.now = cc in
    (whole_text c.args.text.now c.requires.first at).1
