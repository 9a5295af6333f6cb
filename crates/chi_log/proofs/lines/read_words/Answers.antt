-- Where the words end too early, and where there are eleven.
use Rattle.std.proofs.Common.{sym, ap, ◌∙◌, refl}
use Rattle.chi_log.specs.Lines.{words_read}
use Rattle.chi_log.specs.Rows.{row_of}
use Rattle.chi_log.specs.Seen.{beat_after, seen_of}
use Rattle.chi_log.proofs.RowLemmas.{no_more, one_more}
use Rattle.chi_log.proofs.lines.read_words.Goals as goal

pub returns-in_err-channel : goal.returns-in_err-channel
unfolding words_read row_of
returns-in_err-channel c =
    let same = sym (ap (words_read c.args.options) (
    no_more c.args.words.now c.in_err-channel.ensures.first)) in
    record {
      seen = c.from_residual.ensures ∙ ap seen_of same;
      beat = ap (λ read. beat_after read c.args.beat.now) same;
    }

pub returns-in_err-source : goal.returns-in_err-source
unfolding words_read row_of
returns-in_err-source c =
    let same = sym (ap (words_read c.args.options) (
    one_more c.args.words.now c.next_column.new.self _ c.in_ok-channel.channel c.in_ok-channel.ensures.first c.in_ok-channel.ensures.rest (
    no_more c.next_column.new.self c.in_err-source.ensures.first))) in
    record {
      seen = c.from_residual-in_err-source.ensures ∙ ap seen_of same;
      beat = ap (λ read. beat_after read c.args.beat.now) same;
    }

pub returns-in_err-target : goal.returns-in_err-target
unfolding words_read row_of
returns-in_err-target c =
    let same = sym (ap (words_read c.args.options) (
    one_more c.args.words.now c.next_column.new.self _ c.in_ok-channel.channel c.in_ok-channel.ensures.first c.in_ok-channel.ensures.rest (
    one_more c.next_column.new.self c.next_column-2.new.self _ c.in_ok-source.source c.in_ok-source.ensures.first c.in_ok-source.ensures.rest (
    no_more c.next_column-2.new.self c.in_err-target.ensures.first)))) in
    record {
      seen = c.from_residual-in_err-target.ensures ∙ ap seen_of same;
      beat = ap (λ read. beat_after read c.args.beat.now) same;
    }

pub returns-in_err-txn : goal.returns-in_err-txn
unfolding words_read row_of
returns-in_err-txn c =
    let same = sym (ap (words_read c.args.options) (
    one_more c.args.words.now c.next_column.new.self _ c.in_ok-channel.channel c.in_ok-channel.ensures.first c.in_ok-channel.ensures.rest (
    one_more c.next_column.new.self c.next_column-2.new.self _ c.in_ok-source.source c.in_ok-source.ensures.first c.in_ok-source.ensures.rest (
    one_more c.next_column-2.new.self c.next_column-3.new.self _ c.in_ok-target.target c.in_ok-target.ensures.first c.in_ok-target.ensures.rest (
    no_more c.next_column-3.new.self c.in_err-txn.ensures.first))))) in
    record {
      seen = c.from_residual-in_err-txn.ensures ∙ ap seen_of same;
      beat = ap (λ read. beat_after read c.args.beat.now) same;
    }

pub returns-in_err-opcode : goal.returns-in_err-opcode
unfolding words_read row_of
returns-in_err-opcode c =
    let same = sym (ap (words_read c.args.options) (
    one_more c.args.words.now c.next_column.new.self _ c.in_ok-channel.channel c.in_ok-channel.ensures.first c.in_ok-channel.ensures.rest (
    one_more c.next_column.new.self c.next_column-2.new.self _ c.in_ok-source.source c.in_ok-source.ensures.first c.in_ok-source.ensures.rest (
    one_more c.next_column-2.new.self c.next_column-3.new.self _ c.in_ok-target.target c.in_ok-target.ensures.first c.in_ok-target.ensures.rest (
    one_more c.next_column-3.new.self c.next_column-4.new.self _ c.in_ok-txn.txn c.in_ok-txn.ensures.first c.in_ok-txn.ensures.rest (
    no_more c.next_column-4.new.self c.in_err-opcode.ensures.first)))))) in
    record {
      seen = c.from_residual-in_err-opcode.ensures ∙ ap seen_of same;
      beat = ap (λ read. beat_after read c.args.beat.now) same;
    }

pub returns-in_err-address : goal.returns-in_err-address
unfolding words_read row_of
returns-in_err-address c =
    let same = sym (ap (words_read c.args.options) (
    one_more c.args.words.now c.next_column.new.self _ c.in_ok-channel.channel c.in_ok-channel.ensures.first c.in_ok-channel.ensures.rest (
    one_more c.next_column.new.self c.next_column-2.new.self _ c.in_ok-source.source c.in_ok-source.ensures.first c.in_ok-source.ensures.rest (
    one_more c.next_column-2.new.self c.next_column-3.new.self _ c.in_ok-target.target c.in_ok-target.ensures.first c.in_ok-target.ensures.rest (
    one_more c.next_column-3.new.self c.next_column-4.new.self _ c.in_ok-txn.txn c.in_ok-txn.ensures.first c.in_ok-txn.ensures.rest (
    one_more c.next_column-4.new.self c.next_column-5.new.self _ c.in_ok-opcode.opcode c.in_ok-opcode.ensures.first c.in_ok-opcode.ensures.rest (
    no_more c.next_column-5.new.self c.in_err-address.ensures.first))))))) in
    record {
      seen = c.from_residual-in_err-address.ensures ∙ ap seen_of same;
      beat = ap (λ read. beat_after read c.args.beat.now) same;
    }

pub returns-in_err-resp : goal.returns-in_err-resp
unfolding words_read row_of
returns-in_err-resp c =
    let same = sym (ap (words_read c.args.options) (
    one_more c.args.words.now c.next_column.new.self _ c.in_ok-channel.channel c.in_ok-channel.ensures.first c.in_ok-channel.ensures.rest (
    one_more c.next_column.new.self c.next_column-2.new.self _ c.in_ok-source.source c.in_ok-source.ensures.first c.in_ok-source.ensures.rest (
    one_more c.next_column-2.new.self c.next_column-3.new.self _ c.in_ok-target.target c.in_ok-target.ensures.first c.in_ok-target.ensures.rest (
    one_more c.next_column-3.new.self c.next_column-4.new.self _ c.in_ok-txn.txn c.in_ok-txn.ensures.first c.in_ok-txn.ensures.rest (
    one_more c.next_column-4.new.self c.next_column-5.new.self _ c.in_ok-opcode.opcode c.in_ok-opcode.ensures.first c.in_ok-opcode.ensures.rest (
    one_more c.next_column-5.new.self c.next_column-6.new.self _ c.in_ok-address.address c.in_ok-address.ensures.first c.in_ok-address.ensures.rest (
    no_more c.next_column-6.new.self c.in_err-resp.ensures.first)))))))) in
    record {
      seen = c.from_residual-in_err-resp.ensures ∙ ap seen_of same;
      beat = ap (λ read. beat_after read c.args.beat.now) same;
    }

pub returns-in_err-dbid : goal.returns-in_err-dbid
unfolding words_read row_of
returns-in_err-dbid c =
    let same = sym (ap (words_read c.args.options) (
    one_more c.args.words.now c.next_column.new.self _ c.in_ok-channel.channel c.in_ok-channel.ensures.first c.in_ok-channel.ensures.rest (
    one_more c.next_column.new.self c.next_column-2.new.self _ c.in_ok-source.source c.in_ok-source.ensures.first c.in_ok-source.ensures.rest (
    one_more c.next_column-2.new.self c.next_column-3.new.self _ c.in_ok-target.target c.in_ok-target.ensures.first c.in_ok-target.ensures.rest (
    one_more c.next_column-3.new.self c.next_column-4.new.self _ c.in_ok-txn.txn c.in_ok-txn.ensures.first c.in_ok-txn.ensures.rest (
    one_more c.next_column-4.new.self c.next_column-5.new.self _ c.in_ok-opcode.opcode c.in_ok-opcode.ensures.first c.in_ok-opcode.ensures.rest (
    one_more c.next_column-5.new.self c.next_column-6.new.self _ c.in_ok-address.address c.in_ok-address.ensures.first c.in_ok-address.ensures.rest (
    one_more c.next_column-6.new.self c.next_column-7.new.self _ c.in_ok-resp.resp c.in_ok-resp.ensures.first c.in_ok-resp.ensures.rest (
    no_more c.next_column-7.new.self c.in_err-dbid.ensures.first))))))))) in
    record {
      seen = c.from_residual-in_err-dbid.ensures ∙ ap seen_of same;
      beat = ap (λ read. beat_after read c.args.beat.now) same;
    }

pub returns-in_err-allow_retry : goal.returns-in_err-allow_retry
unfolding words_read row_of
returns-in_err-allow_retry c =
    let same = sym (ap (words_read c.args.options) (
    one_more c.args.words.now c.next_column.new.self _ c.in_ok-channel.channel c.in_ok-channel.ensures.first c.in_ok-channel.ensures.rest (
    one_more c.next_column.new.self c.next_column-2.new.self _ c.in_ok-source.source c.in_ok-source.ensures.first c.in_ok-source.ensures.rest (
    one_more c.next_column-2.new.self c.next_column-3.new.self _ c.in_ok-target.target c.in_ok-target.ensures.first c.in_ok-target.ensures.rest (
    one_more c.next_column-3.new.self c.next_column-4.new.self _ c.in_ok-txn.txn c.in_ok-txn.ensures.first c.in_ok-txn.ensures.rest (
    one_more c.next_column-4.new.self c.next_column-5.new.self _ c.in_ok-opcode.opcode c.in_ok-opcode.ensures.first c.in_ok-opcode.ensures.rest (
    one_more c.next_column-5.new.self c.next_column-6.new.self _ c.in_ok-address.address c.in_ok-address.ensures.first c.in_ok-address.ensures.rest (
    one_more c.next_column-6.new.self c.next_column-7.new.self _ c.in_ok-resp.resp c.in_ok-resp.ensures.first c.in_ok-resp.ensures.rest (
    one_more c.next_column-7.new.self c.next_column-8.new.self _ c.in_ok-dbid.dbid c.in_ok-dbid.ensures.first c.in_ok-dbid.ensures.rest (
    no_more c.next_column-8.new.self c.in_err-allow_retry.ensures.first)))))))))) in
    record {
      seen = c.from_residual-in_err-allow_retry.ensures ∙ ap seen_of same;
      beat = ap (λ read. beat_after read c.args.beat.now) same;
    }

pub returns-in_err-pcrd : goal.returns-in_err-pcrd
unfolding words_read row_of
returns-in_err-pcrd c =
    let same = sym (ap (words_read c.args.options) (
    one_more c.args.words.now c.next_column.new.self _ c.in_ok-channel.channel c.in_ok-channel.ensures.first c.in_ok-channel.ensures.rest (
    one_more c.next_column.new.self c.next_column-2.new.self _ c.in_ok-source.source c.in_ok-source.ensures.first c.in_ok-source.ensures.rest (
    one_more c.next_column-2.new.self c.next_column-3.new.self _ c.in_ok-target.target c.in_ok-target.ensures.first c.in_ok-target.ensures.rest (
    one_more c.next_column-3.new.self c.next_column-4.new.self _ c.in_ok-txn.txn c.in_ok-txn.ensures.first c.in_ok-txn.ensures.rest (
    one_more c.next_column-4.new.self c.next_column-5.new.self _ c.in_ok-opcode.opcode c.in_ok-opcode.ensures.first c.in_ok-opcode.ensures.rest (
    one_more c.next_column-5.new.self c.next_column-6.new.self _ c.in_ok-address.address c.in_ok-address.ensures.first c.in_ok-address.ensures.rest (
    one_more c.next_column-6.new.self c.next_column-7.new.self _ c.in_ok-resp.resp c.in_ok-resp.ensures.first c.in_ok-resp.ensures.rest (
    one_more c.next_column-7.new.self c.next_column-8.new.self _ c.in_ok-dbid.dbid c.in_ok-dbid.ensures.first c.in_ok-dbid.ensures.rest (
    one_more c.next_column-8.new.self c.next_column-9.new.self _ c.in_ok-allow_retry.allow_retry c.in_ok-allow_retry.ensures.first c.in_ok-allow_retry.ensures.rest (
    no_more c.next_column-9.new.self c.in_err-pcrd.ensures.first))))))))))) in
    record {
      seen = c.from_residual-in_err-pcrd.ensures ∙ ap seen_of same;
      beat = ap (λ read. beat_after read c.args.beat.now) same;
    }

pub returns-in_err-payload : goal.returns-in_err-payload
unfolding words_read row_of
returns-in_err-payload c =
    let same = sym (ap (words_read c.args.options) (
    one_more c.args.words.now c.next_column.new.self _ c.in_ok-channel.channel c.in_ok-channel.ensures.first c.in_ok-channel.ensures.rest (
    one_more c.next_column.new.self c.next_column-2.new.self _ c.in_ok-source.source c.in_ok-source.ensures.first c.in_ok-source.ensures.rest (
    one_more c.next_column-2.new.self c.next_column-3.new.self _ c.in_ok-target.target c.in_ok-target.ensures.first c.in_ok-target.ensures.rest (
    one_more c.next_column-3.new.self c.next_column-4.new.self _ c.in_ok-txn.txn c.in_ok-txn.ensures.first c.in_ok-txn.ensures.rest (
    one_more c.next_column-4.new.self c.next_column-5.new.self _ c.in_ok-opcode.opcode c.in_ok-opcode.ensures.first c.in_ok-opcode.ensures.rest (
    one_more c.next_column-5.new.self c.next_column-6.new.self _ c.in_ok-address.address c.in_ok-address.ensures.first c.in_ok-address.ensures.rest (
    one_more c.next_column-6.new.self c.next_column-7.new.self _ c.in_ok-resp.resp c.in_ok-resp.ensures.first c.in_ok-resp.ensures.rest (
    one_more c.next_column-7.new.self c.next_column-8.new.self _ c.in_ok-dbid.dbid c.in_ok-dbid.ensures.first c.in_ok-dbid.ensures.rest (
    one_more c.next_column-8.new.self c.next_column-9.new.self _ c.in_ok-allow_retry.allow_retry c.in_ok-allow_retry.ensures.first c.in_ok-allow_retry.ensures.rest (
    one_more c.next_column-9.new.self c.next_column-10.new.self _ c.in_ok-pcrd.pcrd c.in_ok-pcrd.ensures.first c.in_ok-pcrd.ensures.rest (
    no_more c.next_column-10.new.self c.in_err-payload.ensures.first)))))))))))) in
    record {
      seen = c.from_residual-in_err-payload.ensures ∙ ap seen_of same;
      beat = ap (λ read. beat_after read c.args.beat.now) same;
    }

pub returns : goal.returns
unfolding words_read row_of
returns c =
    let same = sym (ap (words_read c.args.options) (
    one_more c.args.words.now c.next_column.new.self _ c.in_ok-channel.channel c.in_ok-channel.ensures.first c.in_ok-channel.ensures.rest (
    one_more c.next_column.new.self c.next_column-2.new.self _ c.in_ok-source.source c.in_ok-source.ensures.first c.in_ok-source.ensures.rest (
    one_more c.next_column-2.new.self c.next_column-3.new.self _ c.in_ok-target.target c.in_ok-target.ensures.first c.in_ok-target.ensures.rest (
    one_more c.next_column-3.new.self c.next_column-4.new.self _ c.in_ok-txn.txn c.in_ok-txn.ensures.first c.in_ok-txn.ensures.rest (
    one_more c.next_column-4.new.self c.next_column-5.new.self _ c.in_ok-opcode.opcode c.in_ok-opcode.ensures.first c.in_ok-opcode.ensures.rest (
    one_more c.next_column-5.new.self c.next_column-6.new.self _ c.in_ok-address.address c.in_ok-address.ensures.first c.in_ok-address.ensures.rest (
    one_more c.next_column-6.new.self c.next_column-7.new.self _ c.in_ok-resp.resp c.in_ok-resp.ensures.first c.in_ok-resp.ensures.rest (
    one_more c.next_column-7.new.self c.next_column-8.new.self _ c.in_ok-dbid.dbid c.in_ok-dbid.ensures.first c.in_ok-dbid.ensures.rest (
    one_more c.next_column-8.new.self c.next_column-9.new.self _ c.in_ok-allow_retry.allow_retry c.in_ok-allow_retry.ensures.first c.in_ok-allow_retry.ensures.rest (
    one_more c.next_column-9.new.self c.next_column-10.new.self _ c.in_ok-pcrd.pcrd c.in_ok-pcrd.ensures.first c.in_ok-pcrd.ensures.rest (
    one_more c.next_column-10.new.self c.next_column-11.new.self _ c.in_ok-payload.payload c.in_ok-payload.ensures.first c.in_ok-payload.ensures.rest (
    refl))))))))))))) in
    record {
      seen = c.read_in.ensures.seen ∙ ap seen_of same;
      beat = c.read_in.ensures.beat ∙ ap (λ read. beat_after read c.args.beat.now) same;
    }
