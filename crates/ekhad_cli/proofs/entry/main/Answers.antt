use Rattle.std.proofs.Common.{inl, ◌∙◌}
use Rattle.ekhad_cli.proofs.entry.main.Goals as goal

-- the run is one of the words that there are
pub returns : goal.returns
returns g c = record {
  ends = (
    c.run-status.result,
    c.from-2.ensures ∙ c.code-2.ensures.code,
    inl (
      _,
      record {
        written = c.run-status.ensures.written;
        no_line = c.run-status.ensures.no_line;
        end = c.run-status.ensures.end;
        quiet = c.run-status.ensures.quiet;
        front = c.run-status.ensures.front;
        line = c.run-status.ensures.line;
        usage = c.run-status.ensures.usage;
        unread = c.run-status.ensures.unread;
        limit_taken = c.run-status.ensures.limit_taken;
        read_fault = c.run-status.ensures.read_fault;
        write_fault = c.run-status.ensures.write_fault;
      },
    ),
  );
}
