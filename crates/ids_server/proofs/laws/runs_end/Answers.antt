use Rattle.ids_server.proofs.laws.runs_end.Goals as goal

pub returns : goal.returns
returns c = λ script found moment r running. record { matches = running.served.matches; legal = running.served.legal; replies = running.served.answered; timely = running.timely }
