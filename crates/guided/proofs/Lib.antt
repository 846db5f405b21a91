mod Planning
mod Finding
mod Loading
