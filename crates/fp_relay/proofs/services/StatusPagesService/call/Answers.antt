use Rattle.std.proofs.Common.{subst}
use Rattle.http.specs.Request.{head_of}
use Rattle.http_uri.specs.Uri.{uri_path}
use Rattle.fp_relay_replies.specs.Answers.{IsSent}
use Rattle.fp_relay_replies.specs.Status.{status_answer}
use Rattle.fp_relay_replies.specs.declared.status.Report.{Report}
use Rattle.fp_relay.proofs.services.StatusPagesService.call.Goals as goal

-- the report that was answered by is the one that was counted, with its connections
pub returns-clause-ok : goal.returns-clause-ok
returns-clause-ok g c =
    let head = head_of c.args.request.now in (
      c.report-report.result,
      c.now.result,
      subst (λ (r : Report). IsSent (status_answer r head.method (uri_path head.uri)) c.answer_status.new.response) c.add_counts.ensures
          c.in_ok-answer_status.ensures,
    )
