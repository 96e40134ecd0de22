mod WorkedBody
mod Singles
